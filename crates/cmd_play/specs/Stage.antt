-- Where a play stands in its input, and why a line ends it.
use Rattle.std.specs.Prelude.{◌≡◌, ◌≢◌, ◌<◌, ◌≤◌, ◌+◌, ◌-◌, ◌*◌, ℕ, List, ◌∷◌, ◌++◌, true}
use Rattle.std.specs.Prelude.{false, length, fold}
use Rattle.fade_core.specs.declared.fader.Fader.{Ghosts}
use Rattle.fade_core.specs.Level.{Start}
use Rattle.desk_core.specs.Played.{Act}
use Rattle.console.specs.Stands as console
use Rattle.console.specs.Streams.{Production}
use Rattle.console.specs.declared.reading.Reading.{Reading}
use Rattle.console.specs.Spelling.{is_malformed, reading_of}
use Rattle.cmd_play.specs.declared.stage.Stage.{Stage}
use Rattle.cmd_play.specs.declared.fault.PlayFault.{PlayFault}
use Rattle.cmd_play.specs.declared.fault.PlayFault.TheVariants.{Line, Device}
use Rattle.ascii_text.specs.Lines.{Cut, with_byte}
use Rattle.cmd_play.specs.Lines.{ArePlayLines}
use Rattle.cmd_play.specs.Run.{Emission, FailsToPrint, Ran, history_of}

-- ---- one line

-- why the line of this number is not carried out: it is malformed; or it is not, and the output
-- fails
abbrev pub EndsPlayAt : PlayFault → ℕ → Reading → Type 0
EndsPlayAt (Line n) number reading = (n ≡ number) × (is_malformed reading ≡ true)
EndsPlayAt Device number reading = is_malformed reading ≡ false

-- what is left then: nothing is offered or printed; or what is due is offered, and nothing printed
abbrev pub LeavesLine : PlayFault → Production → List Act → Reading → Emission → Emission → Type 0
LeavesLine (Line n) p history reading before after = after ≡ before
LeavesLine Device p history reading before after = FailsToPrint p history reading before after

-- ---- the bytes of an input

-- a stage stands for the bytes that are cut so: their lines were carried out
pub record StandsFor {F : Type 0} {G : Ghosts F} (fader_stands_for : F → List Start → Type 0)
    (p : Production)
    (stage : Stage F G) (cut : Cut) : Type 0 where
  pub console_stands : console.StandsFor fader_stands_for p stage.console
      (history_of p.show cut.lines)
  pub pending_is : stage.pending.items ≡ cut.rest
  pub number_is : stage.number ≡ length cut.lines
  pub fine : ArePlayLines cut.lines
  pub short : length cut.rest ≤ 200

-- how many bytes a stage can still take
abbrev pub play_room : ℕ → List ℕ → ℕ
play_room number pending = (10000000 - number) * 201 + (201 - length pending)

-- a stage has taken these bytes: it stands for them behind those before; where the devices tell,
-- the run of the lines before has become that of all; and it can take so many bytes less
pub record PlayHasTaken {F : Type 0} {G : Ghosts F} (fader_stands_for : F → List Start → Type 0)
    (bytes : List ℕ) (old new : Stage F G) (tell : Type 0) (before after : Emission)
    : Type 0 where
  pub stands : (p : Production) (cut : Cut) → StandsFor fader_stands_for p old cut
      → StandsFor fader_stands_for p new (fold with_byte cut bytes)
  pub ran : tell → (p : Production) (cut : Cut) (start : Emission)
      → StandsFor fader_stands_for p old cut → Ran p cut.lines start before old.lost
      → Ran p (fold with_byte cut bytes).lines start after new.lost
  pub room : play_room new.number new.pending.items + length bytes
      ≤ play_room old.number old.pending.items

-- the next line is refused at this byte: it is line 10,000,001; it is longer than 200 bytes; or
-- the byte ends it, and it is malformed
pub data IsRefusedByPlay (cut : Cut) (byte : ℕ) : Type 0 where
  late : length cut.lines ≡ 10000000 → IsRefusedByPlay cut byte
  long : length cut.rest ≡ 200 → byte ≢ 10 → IsRefusedByPlay cut byte
  malformed : byte ≡ 10 → is_malformed (reading_of cut.rest) ≡ true → IsRefusedByPlay cut byte

-- the byte ends a line that is carried out: it is none after line 10,000,000, it has at most 200
-- bytes, and it is not malformed
pub record EndsFineLine (cut : Cut) (byte : ℕ) : Type 0 where
  pub ends : byte ≡ 10
  pub few : length cut.lines < 10000000
  pub short : length cut.rest ≤ 200
  pub fine : is_malformed (reading_of cut.rest) ≡ false

-- why the byte behind these ends the play: the next line is refused; or it is not, and the output
-- fails
abbrev pub EndsPlay : PlayFault → Cut → ℕ → Type 0
EndsPlay (Line n) cut byte = (n ≡ length cut.lines + 1) × IsRefusedByPlay cut byte
EndsPlay Device cut byte = EndsFineLine cut byte

-- the run of the lines, and then a line whose text the output did not take
pub record RunsDry (p : Production) (cut : Cut) (before after : Emission) : Type 0 where
  pub middle : Emission
  pub lost : ℕ
  pub ran : Ran p cut.lines before middle lost
  pub fails : FailsToPrint p (history_of p.show cut.lines) (reading_of cut.rest) middle after

-- what is left then: the run of the lines before; and of the line that was not printed what was
-- offered
abbrev pub PlayLeaves : PlayFault → Production → Cut → Emission → Emission → Type 0
PlayLeaves (Line n) p cut before after = (lost : ℕ) × Ran p cut.lines before after lost
PlayLeaves Device p cut before after = RunsDry p cut before after

-- one of these bytes ended the play, behind those before it; and what is left then, where the
-- devices tell
pub record PlayHasEnded {F : Type 0} {G : Ghosts F} (fader_stands_for : F → List Start → Type 0)
    (fault : PlayFault) (bytes : List ℕ) (old : Stage F G) (tell : Type 0) (before after : Emission)
    : Type 0 where
  pub front : List ℕ
  pub byte : ℕ
  pub rest : List ℕ
  pub bytes_are : bytes ≡ front ++ byte ∷ rest
  pub fine : (p : Production) (cut : Cut) → StandsFor fader_stands_for p old cut
      → ArePlayLines (fold with_byte cut front).lines
  pub ends : (p : Production) (cut : Cut) → StandsFor fader_stands_for p old cut
      → EndsPlay fault (fold with_byte cut front) byte
  pub leaves : tell → (p : Production) (cut : Cut) (start : Emission)
      → StandsFor fader_stands_for p old cut → Ran p cut.lines start before old.lost
      → PlayLeaves fault p (fold with_byte cut front) start after
