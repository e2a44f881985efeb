-- What a run leaves on its output.
use Rattle.std.specs.Prelude.{◌≡◌, ℕ, List, Result, Ok, Err, IsSomeAnd}
use Rattle.std.specs.FinMap as maps
use Rattle.devices.specs.Tape.{Tape, with_more, with_failure}
use Rattle.show_line.specs.Said.{desk_limits}
use Rattle.show_reader.specs.ItsShow.{OfItsShow}
use Rattle.show_reader.specs.Reading.{lines_read, lines_skipped}
use Rattle.cmd_faults.specs.declared.fault.RunFault.{RunFault}
use Rattle.cmd_faults.specs.declared.fault.RunFault.TheVariants as run
use Rattle.cmd_show.specs.Texts.{check_text, IsLookText}

-- what `check` prints of a show text
abbrev pub IsCheckOf : List ℕ → List ℕ → Type 0
IsCheckOf show text = OfItsShow show (λ s.
    text ≡ check_text (lines_read desk_limits show) (lines_skipped desk_limits show) s)

-- what `look` prints of a cue of a show text, with this CID; the cue is there
abbrev pub IsLookOf : List ℕ → ℕ → List ℕ → List ℕ → Type 0
IsLookOf show cue cid text = OfItsShow show (λ s.
    IsSomeAnd (maps.get s.cues cue) (λ look. IsLookText look.levels s.patch cid text))

-- at Ok the output took such a text and nothing else, at Device one write failed, and at any other
-- fault nothing was written
abbrev pub PrintsText : {X : Type 0} → Result X RunFault → (List ℕ → Type 0) → Tape ℕ → Tape ℕ
    → Type 0
PrintsText (Ok x) IsText before after =
    (text : List ℕ) × IsText text × (after ≡ with_more before text)
PrintsText (Err run.Device) IsText before after = after ≡ with_failure before
PrintsText (Err fault) IsText before after = after ≡ before

-- what a run over an output prints is such a text, where the output tells at the end; then it told
-- before too
pub record PrintsTo {W X : Type 0} (tells : W → Type 0) (tape : W → Tape ℕ) (before after : W)
    (result : Result X RunFault) (IsText : List ℕ → Type 0) : Type 0 where
  pub told : tells after → tells before
  pub text : tells after → PrintsText result IsText (tape before) (tape after)
