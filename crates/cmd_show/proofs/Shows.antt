-- A text means one show alone.
use Rattle.std.proofs.Common.{◌≡◌, ◌∙◌, sym, ℕ, Bool, List, Some, is_some, IsSomeAnd}
use Rattle.std.proofs.Common.{Result, Ok, Err, IfErr, IsErrAnd}
use Rattle.std.specs.FinMap as maps
use Rattle.show_core.specs.declared.cue.CueData.{CueData}
use Rattle.show_core.specs.Tables.{LevelMap, PatchMap, Tables}
use Rattle.show_line.specs.Said.{desk_limits}
use Rattle.show_line.specs.declared.statement.Record.TheVariants.{Cue}
use Rattle.show_reader.specs.Text.{statements_of}
use Rattle.show_reader.specs.ItsShow.{OfItsShow}
use Rattle.show_reader.specs.Meaning.{is_record_there}
use Rattle.show_reader.specs.Reading.{lines_read, lines_skipped}
use Rattle.show_reader.specs.Shows.{IsShowOf}
use Rattle.show_reader.proofs.Found.{record_there}
use Rattle.show_reader.proofs.OneShow.{of_its_show}
use Rattle.cmd_faults.specs.declared.fault.RunFault.{RunFault}
use Rattle.cmd_faults.specs.declared.fault.RunFault.TheVariants as run
use Rattle.cmd_show.specs.Texts.{check_text}
use Rattle.cmd_show.specs.Prints.{IsCheckOf}

-- the line of `check`, from what the reader answers
pub check_of : (show written : List ℕ) (lines skipped : ℕ) (s : Tables)
    → IsShowOf (statements_of desk_limits show) s
    → lines ≡ lines_read desk_limits show → skipped ≡ lines_skipped desk_limits show
    → written ≡ check_text lines skipped s → IsCheckOf show written
check_of show written lines skipped s is read skips line =
    of_its_show show (λ t. written ≡ check_text (lines_read desk_limits show)
    (lines_skipped desk_limits show) t) s is (rw (read, skips) at line)

-- what was written of a cue that is there is so by every show of the text
pub of_cue : (show : List ℕ) (cue : ℕ) (IsText : List ℕ → LevelMap → PatchMap → Type 0)
    (text written : List ℕ) (s : Tables) (look : CueData)
    → IsShowOf (statements_of desk_limits show) s
    → maps.get s.cues cue ≡ Some look → written ≡ text → IsText text look.levels s.patch
    → OfItsShow show (λ t.
    IsSomeAnd (maps.get t.cues cue) (λ look. IsText written look.levels t.patch))
of_cue show cue IsText text written s look is found same lines =
    let P : Tables → Type 0 = λ t.
    IsSomeAnd (maps.get t.cues cue) (λ look. IsText written look.levels t.patch) in
    of_its_show show P s is (rw (same, found) lines)

-- a cue is there where the show has it
pub cue_is_there : (show : List ℕ) (s : Tables) (cue : ℕ) (b : Bool)
    → IsShowOf (statements_of desk_limits show) s → is_some (maps.get s.cues cue) ≡ b
    → is_record_there (Cue cue) (statements_of desk_limits show) ≡ b
cue_is_there show s cue b is found =
    sym (record_there (statements_of desk_limits show) s (Cue cue) is) ∙ found

-- what holds of a failed output holds of the answer
pub output_failed : {X : Type 0} (r : Result X RunFault) (P : RunFault → Type 0)
    → IsErrAnd r (λ e. e ≡ run.Device) → P run.Device → IfErr r P
output_failed (Ok x) P is p = tt
output_failed (Err e) P is p = rw is p
