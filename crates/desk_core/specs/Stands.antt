-- What a desk keeps, against its history.
use Rattle.std.specs.Prelude.{◌≡◌, ◌<◌, ℕ, Bool, true, false, IsTrue, List, ◌∷◌, Some, is_some}
use Rattle.std.specs.Prelude.{slice_get}
use Rattle.show_core.specs.Numbers.{is_channel}
use Rattle.show_core.specs.Tables.{Tables}
use Rattle.fade_core.specs.Level.{Start}
use Rattle.playback_core.specs.Stands as playback
use Rattle.master_core.specs.Settings as masters
use Rattle.master_core.specs.Merged.{merged_after}
use Rattle.master_core.specs.Settings.{grand_after}
use Rattle.patch_core.specs.Frame.{listed_level, AreDrawn}
use Rattle.desk_core.specs.declared.command.Command.TheVariants.{Sub, Group}
use Rattle.desk_core.specs.declared.instruction.Instruction.{Instruction}
use Rattle.desk_core.specs.declared.instruction.Instruction.TheVariants.{Plain}
use Rattle.desk_core.specs.DeskState.{DeskState}
use Rattle.desk_core.specs.Played.{Act, last_act_moment, last_tick, ticks_since_end, moves, settings}
use Rattle.desk_core.specs.Meaning.{channel_level, latest_frame}

-- an instruction sets no submaster and no group, so that their levels stay
abbrev pub keeps_floors : Instruction → Bool
keeps_floors (Plain (Sub n byte)) = false
keeps_floors (Plain (Group n byte)) = false
keeps_floors _ = true

-- a desk stands for a history of a show with a base: each part that it keeps is what the history
-- leaves
pub record StandsFor {F : Type 0} (fader_stands_for : F → List Start → Type 0) (show : Tables)
    (base : ℕ) (desk : DeskState F) (history : List Act) : Type 0 where
  pub show_is : desk.show ≡ show
  pub base_is : desk.base ≡ base
  pub playback_stands : playback.StandsFor fader_stands_for show desk.playback (moves show history)
      (is_some (ticks_since_end history))
  pub masters_stand : masters.StandsFor desk.masters (settings history)
  pub moment_is : desk.last_moment ≡ last_act_moment history
  pub tick_is : desk.last_tick ≡ last_tick history
  pub ended_is : desk.ended ≡ ticks_since_end history
  pub frames_are : (ordinal : ℕ) → ordinal < 16
      → slice_get desk.frames ordinal ≡ Some (latest_frame show history ordinal)
  -- the floors that are kept are the levels of the channels over a dark playback
  pub floors_are : IsTrue desk.are_floors → (channel : ℕ) → IsTrue (is_channel channel)
      → listed_level desk.floors channel ≡ merged_after show (settings history) channel 0
  -- what is kept is what the show means at the moment of the last call
  pub kept : IsTrue desk.is_kept
      → AreDrawn show.patch (channel_level show history desk.last_moment)
      (grand_after (settings history)) desk.frames

-- this holds of each history that a desk stands for, with its show and its base
abbrev pub OfEach : {F : Type 0} → (F → List Start → Type 0) → DeskState F
    → (Tables → ℕ → List Act → Type 0) → Type 0
OfEach fader_stands_for desk fact = (show : Tables) (base : ℕ) (history : List Act)
    → StandsFor fader_stands_for show base desk history → fact show base history

-- an act leads from one desk to another: the new one stands for each history of the old one, and
-- the act behind it
abbrev pub Leads : {F : Type 0} → (F → List Start → Type 0) → Act → DeskState F → DeskState F
    → Type 0
Leads fader_stands_for act old new = OfEach fader_stands_for old
    (λ show base history. StandsFor fader_stands_for show base new (act ∷ history))
