-- Where a watch stands in its input. Of use inside the crate.
use Rattle.std.specs.Prelude.{◌≡◌, ◌≢◌, ◌≤◌, ◌+◌, ◌-◌, ◌*◌, ◌++◌, ◌∷◌, ◌==◌, []}
use Rattle.std.specs.Prelude.{ℕ, List, length, fold}
use Rattle.std.specs.Prelude.{if◌then◌else◌, Result, Ok, Err}
use Rattle.devices.specs.Tape.{Tape, with_failure, with_more}
use Rattle.cmd_listen.specs.declared.fault.WatchFault.{WatchFault}
use Rattle.cmd_listen.specs.declared.fault.WatchFault.TheVariants as early
use Rattle.cmd_listen.specs.declared.stage.Stage.{Stage}
use Rattle.ascii_text.specs.Lines.{Cut, with_byte}
use Rattle.cmd_listen.specs.Lines.{AreWatchLines}
use Rattle.cmd_listen.specs.Reading.{WatchLine, malformed}
use Rattle.cmd_listen.specs.Runs.{EndsWatch, WatchLeaves}
use Rattle.cmd_listen.specs.Stands.{MonitorsStand}
use Rattle.cmd_listen.specs.declared.watching.Watching.{Watching}
use Rattle.cmd_listen.specs.Watching.{WatchState, last_text, told_at, watch_after}

-- ---- one line

-- why the line of this number ends the watch: it is malformed; what is told finds no memory; or it
-- is not malformed, and the output fails
abbrev pub EndsWatchAt : WatchFault → ℕ → WatchLine → Type 0
EndsWatchAt (early.Line n) number spelled = (n ≡ number) × (spelled ≡ malformed)
EndsWatchAt early.Memory number spelled = Unit {0}
EndsWatchAt early.Device number spelled = spelled ≢ malformed

-- what is left then: nothing was taken, or one write failed
abbrev pub LeftBy : WatchFault → Tape ℕ → Tape ℕ → Type 0
LeftBy early.Device before after = after ≡ with_failure before
LeftBy _ before after = after ≡ before

-- ---- the bytes of an input

-- a stage stands for the bytes that are cut so: their lines were taken
pub record StageStandsFor (universes : List ℕ) (stage : Stage) (cut : Cut) : Type 0 where
  pub watching_stands : MonitorsStand stage.watching (watch_after universes cut.lines)
  pub pending_is : stage.pending.items ≡ cut.rest
  pub number_is : stage.number ≡ length cut.lines
  pub fine : AreWatchLines cut.lines
  pub short : length cut.rest ≤ 3072

-- the output took what was told at these lines
abbrev pub TellsLines : List ℕ → List (List ℕ) → Tape ℕ → Tape ℕ → Type 0
TellsLines universes lines start after = after ≡ with_more start (told_at universes lines)

-- the LF that bytes behind the last LF lack
abbrev pub last_lf : List ℕ → List ℕ
last_lf rest = if length rest == 0 then [] else 10 ∷ []

-- the end of the lines: the output took what is told then; or it found no memory, or the output
-- failed
abbrev pub LastTold : {X : Type 0} → Result X WatchFault → Watching → Type 0 → Tape ℕ → Tape ℕ
    → Type 0
LastTold (Ok x) watching tell before after = (w : WatchState) → MonitorsStand watching w → tell
    → after ≡ with_more before (last_text w)
LastTold (Err fault) watching tell before after =
    ((n : ℕ) → fault ≢ early.Line n) × (tell → LeftBy fault before after)

-- how many bytes a stage can still take
abbrev pub watch_room : ℕ → List ℕ → ℕ
watch_room number pending = (4000000000 - number) * 3073 + (3073 - length pending)

-- a stage has taken these bytes: it stands for them behind those before; where the output tells, it
-- took what is told at all lines behind those before; and the stage can take so many bytes less
pub record WatchHasTaken (bytes : List ℕ) (old new : Stage) (tell : Type 0) (before after : Tape ℕ)
    : Type 0 where
  pub stands : (universes : List ℕ) (cut : Cut) → StageStandsFor universes old cut
      → StageStandsFor universes new (fold with_byte cut bytes)
  pub told : tell → (universes : List ℕ) (cut : Cut) (start : Tape ℕ)
      → StageStandsFor universes old cut
      → TellsLines universes cut.lines start before
      → TellsLines universes (fold with_byte cut bytes).lines start after
  pub room : watch_room new.number new.pending.items + length bytes
      ≤ watch_room old.number old.pending.items

-- one of these bytes ended the watch, behind those before it; and what is left then, where the
-- output tells
pub record WatchHasEnded (fault : WatchFault) (bytes : List ℕ) (old : Stage) (tell : Type 0)
    (before after : Tape ℕ) : Type 0 where
  pub front : List ℕ
  pub byte : ℕ
  pub rest : List ℕ
  pub bytes_are : bytes ≡ front ++ byte ∷ rest
  pub fine : (universes : List ℕ) (cut : Cut) → StageStandsFor universes old cut
      → AreWatchLines (fold with_byte cut front).lines
  pub ends : (universes : List ℕ) (cut : Cut) → StageStandsFor universes old cut
      → EndsWatch fault (fold with_byte cut front) byte
  pub leaves : tell → (universes : List ℕ) (cut : Cut) (start : Tape ℕ)
      → StageStandsFor universes old cut → TellsLines universes cut.lines start before
      → WatchLeaves fault universes (fold with_byte cut front).lines start after
