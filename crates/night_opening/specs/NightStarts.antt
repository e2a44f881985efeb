-- What a night tells at its start, by its words, the text of its show and its network.
use Rattle.std.specs.Prelude.{◌≡◌, ◌⊎◌, ℕ, true, false, List, [], Option, Some, None, option_map}
use Rattle.std.specs.Option.{is_some}
use Rattle.std.specs.FinMap as map
use Rattle.arrayvec.specs.declared.array_vec.ArrayVec.{ArrayVec}
use Rattle.cmd_explain.specs.Encoding.{likely_kind}
use Rattle.cmd_explain.specs.Weights.{IsWeightOf}
use Rattle.cmd_explain.specs.declared.weight.Weight.{Weight}
use Rattle.cmd_faults.specs.Runs.{of_show}
use Rattle.cmd_faults.specs.declared.fault.RunFault.{RunFault}
use Rattle.cmd_faults.specs.declared.fault.RunFault.TheVariants as run
use Rattle.cmd_words.specs.Source.{source_name}
use Rattle.cmd_words.specs.declared.job.Night.{Night}
use Rattle.night_lines.specs.declared.follow.MainNight.{MainNight}
use Rattle.night_lines.specs.declared.found_network.FoundNetwork.{FoundNetwork}
use Rattle.night_lines.specs.declared.record.Recording.{Recording}
use Rattle.night_lines.specs.declared.sends.Transmission.{Transmission}
use Rattle.night_lines.specs.declared.start.NightStart.{NightStart}
use Rattle.night_lines.specs.declared.start_network.StartNetwork.{StartNetwork}
use Rattle.night_opening.specs.declared.night_start.NightAtStart.{NightAtStart}
use Rattle.night_opening.specs.declared.night_start.ShownTexts.{ShownTexts}
use Rattle.patch_core.specs.Frame.{is_base}
use Rattle.remarks.specs.Remarks.{seeming_line, shown_name}
use Rattle.show_core.specs.Readers.{patch_ordinals}
use Rattle.show_core.specs.Tables.{Tables}
use Rattle.show_core.specs.declared.show.Counts.{Counts}
use Rattle.show_line.specs.Said.{desk_limits}
use Rattle.show_reader.specs.ItsShow.{OfItsShow}
use Rattle.show_reader.specs.Reading.{lines_read, lines_skipped, text_fault}
use Rattle.show_reader.specs.Shows.{IsShowOf}
use Rattle.show_reader.specs.Text.{statements_of}
use Rattle.show_reader.specs.declared.fault.ShowFault.{ShowFault}

-- how much a show has of what is counted
abbrev pub counts_of : Tables → Counts
counts_of show = record {
  cues = map.len show.cues;
  subs = map.len show.subs;
  groups = map.len show.groups;
  dimmers = map.len show.patch;
}

-- the line of what a file seems to be, where that is no text
abbrev pub seeming_of : List ℕ → Option (List ℕ)
seeming_of text = option_map seeming_line (likely_kind text)

-- the universes with these ordinals are sent as the words say
pub record IsTransmissionOf (night : Night) (ordinals : List ℕ) (sends : Transmission)
    : Type 0 where
  pub base : sends.base ≡ night.base
  pub ordinals_are : sends.ordinals.now.items ≡ ordinals
  pub targets : sends.targets.now ≡ night.targets
  pub priority : sends.priority ≡ night.priority
  pub cid : sends.cid ≡ night.cid
  pub name : sends.name.now ≡ source_name night.name

abbrev pub seeming_seen : ArrayVec ℕ 513 (Unit {0}) → List ℕ
seeming_seen line = line.items

-- the names of a record and of a main as they are shown, where there are any
abbrev pub record_name : Option Recording → List ℕ
record_name None = []
record_name (Some recording) = shown_name recording.file.now

abbrev pub main_name : Option MainNight → List ℕ
main_name None = []
main_name (Some main) = shown_name main.file.now

-- the texts that the lines of a start are made of
pub record AreShownTexts (night : NightAtStart) (show : Tables) (shown : ShownTexts)
    : Type 0 where
  pub universes : shown.universes.items ≡ patch_ordinals show.patch
  pub seeming : option_map seeming_seen shown.seeming ≡ seeming_of night.show.now
  pub record_is : shown.record_name.bytes ≡ record_name night.recording
  pub main_is : shown.main_name.bytes ≡ main_name night.main

-- the same record, under the name that is shown
abbrev pub IsShownRecord : Option Recording → Option Recording → Type 0
IsShownRecord None shown = shown ≡ None
IsShownRecord (Some given) None = ⊥
IsShownRecord (Some given) (Some shown) = (shown.file.now ≡ shown_name given.file.now)
    × (shown.resumes ≡ given.resumes) × (shown.place ≡ given.place) × (shown.is_cut ≡ given.is_cut)

-- the same main
abbrev pub IsShownMain : Option MainNight → Option MainNight → Type 0
IsShownMain None shown = shown ≡ None
IsShownMain (Some given) None = ⊥
IsShownMain (Some given) (Some shown) = (shown.file.now ≡ shown_name given.file.now)
    × (shown.cid ≡ given.cid) × (shown.priority ≡ given.priority) × (shown.place ≡ given.place)

-- the network of a night as it was found; a card is named where the words name one
pub record IsNetworkOf (night : NightAtStart) (found : FoundNetwork) (network : StartNetwork)
    : Type 0 where
  pub sources : network.sources.now ≡ found.sources
  pub paths : network.paths.now ≡ night.paths.now
  pub cards : network.cards.now ≡ found.cards
  pub is_named : network.is_named ≡ is_some night.night.now.interface

-- what is told of a night with this show, of which so many lines are skipped, and so many notes of
-- weight stand in `explain`
pub record IsStartWith (night : NightAtStart) (show : Tables) (skipped notes : ℕ)
    (found : FoundNetwork) (start : NightStart) : Type 0 where
  pub counts : start.show.counts ≡ counts_of show
  pub skipped_is : start.show.skipped ≡ skipped
  pub notes_is : start.show.notes ≡ notes
  pub seeming : option_map (λ line. line.now) start.show.seeming ≡ seeming_of night.show.now
  pub sends : IsTransmissionOf night.night.now (patch_ordinals show.patch) start.sends
  pub network : IsNetworkOf night found start.network
  pub recording : IsShownRecord night.recording start.recording
  pub main : IsShownMain night.main start.main
  pub ends : start.is_interruptible ≡ night.is_interruptible

-- the show of a text, each of whose universes has a number, and its weight
pub record IsShowAtStart (text : List ℕ) (base : ℕ) (show : Tables) (weight : Weight)
    : Type 0 where
  pub faultless : text_fault desk_limits text ≡ None
  pub is_show : IsShowOf (statements_of desk_limits text) show
  pub has_numbers : is_base show.patch base ≡ true
  pub weighs : IsWeightOf text (lines_read desk_limits text) show weight

-- WHAT A NIGHT TELLS AT ITS START: what its show has, as it is read from its text, and what is sent
-- of it, by its words; the network as it was found; where it is recorded, whom it follows, and what
-- ends it
pub record IsStartOf (night : NightAtStart) (found : FoundNetwork) (start : NightStart)
    : Type 0 where
  pub show : Tables
  pub weight : Weight
  pub of_text : IsShowAtStart night.show.now night.night.now.base show weight
  pub told : IsStartWith night show (lines_skipped desk_limits night.show.now) weight.notes found
      start

-- the show is refused, for the first fault of its text
abbrev pub IsRefusedShow : List ℕ → RunFault → Type 0
IsRefusedShow text fault = (reason : ShowFault) × (text_fault desk_limits text ≡ Some reason)
    × (fault ≡ of_show reason)

-- it is read, and one of its universes has no number
abbrev pub IsWithoutNumbers : List ℕ → ℕ → RunFault → Type 0
IsWithoutNumbers text base fault = (fault ≡ run.Base) × (text_fault desk_limits text ≡ None)
    × OfItsShow text (λ show. is_base show.patch base ≡ false)

-- WHY NOTHING IS TOLD: the show, then the base, or an allocation that failed
abbrev pub IsUntold : NightAtStart → RunFault → Type 0
IsUntold night fault = IsRefusedShow night.show.now fault
    ⊎ (IsWithoutNumbers night.show.now night.night.now.base fault ⊎ (fault ≡ run.Memory))
