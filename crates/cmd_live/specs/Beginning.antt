-- How a night begins: with nothing, with a cue, or behind a record.
use Rattle.std.specs.Prelude.{◌≡◌, ◌+◌, ℕ, List, [], ◌∷◌, ◌++◌, None, IsTrue, codes, length}
use Rattle.std.specs.Prelude.{Result, Ok, Err, is_none, is_some, true}
use Rattle.std.specs.FinMap as maps
use Rattle.fade_core.specs.Level.{Start}
use Rattle.patch_core.specs.Frame.{is_base}
use Rattle.show_core.specs.Tables.{Tables}
use Rattle.show_line.specs.Said.{desk_limits}
use Rattle.show_reader.specs.ItsShow.{OfItsShow}
use Rattle.show_reader.specs.Reading.{text_fault}
use Rattle.sacn_source.specs.Identity.{Identity}
use Rattle.console.specs.Streams.{Production}
use Rattle.console.specs.CueLine.{cue_text}
use Rattle.cmd_faults.specs.declared.fault.RunFault.{RunFault}
use Rattle.cmd_faults.specs.declared.fault.RunFault.TheVariants as run
use Rattle.ascii_text.specs.Lines.{cut_of}
use Rattle.cmd_play.specs.Run.{CarriedLine, IsRunFrom, dues_after, history_of, lines_of_run}
use Rattle.cmd_play.specs.Run.{sends_of_run}
use Rattle.desk_core.specs.Played.{Act}
use Rattle.devices.specs.Send.{Send}
use Rattle.console.specs.Offering.{AreOffered}
use Rattle.console.specs.Spelling.{reading_of}
use Rattle.sacn_source.specs.declared.offered.Offered.{Offered}
use Rattle.live_input.specs.Night.{Happening, came}
use Rattle.live_input.specs.Recall.{AreRecalled, IsRecalled, recall_of}
use Rattle.cmd_live.specs.declared.night.Night.{Night}
use Rattle.cmd_live.specs.Stands.{StandsFor}

-- nothing that was typed waits, and no packet was lost
pub record IsReady {F : Type 0} (night : Night F) : Type 0 where
  pub none_typed : night.input.typed.unread ≡ []
  pub none_lost : night.lost ≡ 0

-- a night was opened for the show that a text means: nothing has happened yet
pub record OpensNight {F : Type 0} (fader_stands_for : F → List Start → Type 0)
    (night : Night F) (show : List ℕ) (base : ℕ) (source : Identity) : Type 0 where
  pub faultless : text_fault desk_limits show ≡ None
  pub numbered : OfItsShow show (λ s. IsTrue (is_base s.patch base))
  pub stands : OfItsShow show (λ s. StandsFor fader_stands_for
      (record { show = s; base = base; source = source }) night [])
  pub ready : IsReady night

-- what is typed so that a night begins with a cue
abbrev pub cue_at_once : ℕ → List ℕ
cue_at_once cue = codes "goto " ++ cue_text cue ++ codes " in 0\n"

-- it was typed
pub record BeginsWith {F : Type 0} (fader_stands_for : F → List Start → Type 0)
    (old new : Night F) (cue : ℕ) : Type 0 where
  pub stands : (p : Production) (happened : List Happening)
      → StandsFor fader_stands_for p old happened
      → StandsFor fader_stands_for p new (came (cue_at_once cue) ∷ happened)
  pub none_lost : new.lost ≡ 0

-- whether the show has the cue, or that it has none
abbrev pub has_cue : {X : Type 0} → Result X RunFault → Tables → ℕ → Type 0
has_cue (Ok x) show cue = is_some (maps.get show.cues cue) ≡ true
has_cue (Err run.NoCue) show cue = is_none (maps.get show.cues cue) ≡ true
has_cue (Err _) show cue = ⊥

-- ---- behind the lines of a record; lists of lines have the newest first

-- it stands for the lines of a record that it has taken up, none where it is new
pub record HasTakenUp {F : Type 0} (fader_stands_for : F → List Start → Type 0) (p : Production)
    (night : Night F) : Type 0 where
  pub lines : List (List ℕ)
  pub stands : StandsFor fader_stands_for p night (recall_of lines)
  pub are_recalled : AreRecalled lines

-- it has taken up lines alone, and none of its packets was lost: so it can follow a main
abbrev pub CanFollow : {F : Type 0} → (F → List Start → Type 0) → Night F → Type 0
CanFollow fader_stands_for night =
    IsReady night × ((p : Production) × HasTakenUp fader_stands_for p night)

-- the link is offered what is due at a line after a history
pub record OffersLine (p : Production) (start : List Act) (line : List ℕ) (before after : List Send)
    : Type 0 where
  pub sends : List Send
  pub offers : List (ℕ × Offered)
  pub are_offered : AreOffered p.source (dues_after p start (reading_of line)) sends offers
  pub after_is : after ≡ before ++ sends

-- and so at each of these lines, behind older ones
pub record FollowsLines (p : Production) (older lines : List (List ℕ)) (before after : List Send)
    : Type 0 where
  pub run : List CarriedLine
  pub lines_are : lines_of_run run ≡ lines
  pub is_run : IsRunFrom p (history_of p.show older) run
  pub after_is : after ≡ before ++ sends_of_run run

-- a night takes up these lines behind those that it has taken up: each is given again and carried
-- out
pub record TakesUp {F : Type 0} (fader_stands_for : F → List Start → Type 0) (tells : Type 0)
    (old new : Night F) (lines : List (List ℕ)) (before after : List Send) : Type 0 where
  pub stands : (p : Production) (older : List (List ℕ))
      → StandsFor fader_stands_for p old (recall_of older)
      → StandsFor fader_stands_for p new (recall_of (lines ++ older))
  pub are_recalled : (p : Production) (older : List (List ℕ))
      → StandsFor fader_stands_for p old (recall_of older) → AreRecalled older
      → AreRecalled (lines ++ older)
  pub follows : tells → (p : Production) (older : List (List ℕ))
      → StandsFor fader_stands_for p old (recall_of older) → AreRecalled older
      → FollowsLines p older lines before after
  pub ready : IsReady new

-- the line of this number is the first of a text that no live night gives behind those before it
pub record IsFirstOther (older : List (List ℕ)) (text : List ℕ) (number : ℕ) : Type 0 where
  pub front : List ℕ
  pub rest : List ℕ
  pub text_is : text ≡ front ++ 10 ∷ rest
  pub are_recalled : AreRecalled ((cut_of front).lines ++ older)
  pub other : IsRecalled (cut_of front).rest (recall_of ((cut_of front).lines ++ older)) → ⊥
  pub number_is : number ≡ length (cut_of front).lines + 1
