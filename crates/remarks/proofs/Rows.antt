-- Remarks and refusals, evaluated.
use Rattle.std.specs.Prelude.{◌≡◌, refl, codes, [], ◌∷◌, Some, length, replicate}
use Rattle.std.specs.Fmt.{digits}
use Rattle.std.specs.declared.io.ErrorKind.TheVariants as kind
use Rattle.show_reader.specs.declared.fault.ShowFault.TheVariants as fault
use Rattle.cmd_words.specs.declared.misfit.Form.TheVariants as form
use Rattle.cmd_faults.specs.declared.fault.RunFault.TheVariants as run
use Rattle.remarks.specs.Remarks.{excerpt, of_device, remark_of}
use Rattle.cmd_words.specs.FormTexts.{form_text}
use Rattle.remarks.specs.Misfits.{dashes, of_text}
use Rattle.remarks.specs.TextLines.{show_remark}
use Rattle.remarks.specs.Refusals.{in_use, number_parts, refusal_line}
use Rattle.remarks.specs.Failures.{of_run}

lengths : (length (excerpt (replicate 300 65)) ≡ 200)
    × (length (remark_of (replicate 300 65 ∷ replicate 300 65 ∷ replicate 300 65 ∷ [])) ≡ 512)
unfolding remark_of
lengths = (refl, refl)

device : of_device (codes "night.asc") kind.NotFound ≡ codes "night.asc: there is no such file"
unfolding remark_of
device = refl

cid : of_text (dashes (codes "cid")) (codes "cid") (codes "7") (form_text form.Cid)
    ≡ codes "--cid `7`: a CID is a UUID, 32 hex digits, as uuidgen prints one"
unfolding remark_of
cid = refl

pair : show_remark (fault.HalfPair 2) (codes "CUE 1\nCHAN 1@FL\t2\nUP 5\n")
    ≡ codes "`CHAN 1@FL 2`: CHAN takes pairs of a channel and a level"
unfolding remark_of
pair = refl

no_line : show_remark (fault.Ident 9) (codes "IDENT 2:0\n") ≡ codes "IDENT names version 3:0"
unfolding remark_of
no_line = refl

base : remark_of (number_parts (codes "--base ") 7 1)
    ≡ codes "the record has 7, and the night 1: give --base 7, or another FILE"
unfolding digits remark_of
base = refl

process : refusal_line (in_use (Some 4711)) ≡ codes "record: in use by process 4711\n"
unfolding digits
process = refl

replies : of_run run.Device [] (Some kind.StorageFull) ≡ codes "standard output: the disk is full"
unfolding remark_of
replies = refl
