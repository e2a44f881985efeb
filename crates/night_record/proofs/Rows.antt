-- Worked records, evaluated.
use Rattle.std.proofs.Common.{◌≡◌, [], ◌∷◌, refl}
use Rattle.std.specs.Prelude.{Some, None, codes}
use Rattle.ascii_text.specs.Text.{words_of}
use Rattle.night_record.specs.Asked.{asked_by}
use Rattle.night_record.specs.Coming.{part_to_keep}
use Rattle.night_record.specs.WholeLines.{line_fronts, whole_length}
use Rattle.night_record.specs.Opening.{head_in}
use Rattle.night_record.specs.Silence.{is_record_silent, leading_moment}
use Rattle.night_record.specs.declared.asked.Asked.TheVariants.{Take, Help, Other}
use Rattle.std.proofs.Common.{true, false}

-- a record that was cut in its third line
cut_lines : line_fronts (codes "0 go\n23 tick\n46 ti") ≡ codes "23 tick" ∷ codes "0 go" ∷ []
cut_lines = refl

cut_behind : whole_length (codes "0 go\n23 tick\n46 ti") ≡ 13
cut_behind = refl

-- a file is read again behind its whole lines, a FIFO goes on
file_kept : part_to_keep true (codes "0 go\n23 ti") ≡ codes "0 go\n"
file_kept = refl

fifo_kept : part_to_keep false (codes "0 go\n23 ti") ≡ codes "0 go\n23 ti"
fifo_kept = refl

-- an empty record, and one without an LF
empty : whole_length [] ≡ 0
empty = refl

without_newline : whole_length (codes "0 go") ≡ 0
without_newline = refl

-- CR belongs to its line
with_cr : line_fronts (codes "0 go\r\n") ≡ codes "0 go\r" ∷ []
with_cr = refl

-- a head is two whole lines
two_lines : head_in (codes "! a\n! b\n0 go") ≡ Some (codes "! a\n! b")
two_lines = refl

second_cut : head_in (codes "! a\n! b") ≡ None
second_cut = refl

-- what is typed while a night follows
take_typed : asked_by (words_of (codes " TAKE")) ≡ Some Take
take_typed = refl

help_typed : asked_by (words_of (codes "?")) ≡ Some Help
help_typed = refl

two_words : asked_by (words_of (codes "take it")) ≡ Some Other
two_words = refl

no_word : asked_by (words_of (codes "! go")) ≡ None
no_word = refl

-- a second of patience
not_yet : is_record_silent 999999999 1000 ≡ false
not_yet = refl

silent : is_record_silent 1000000000 1000 ≡ true
silent = refl

long_silence : leading_moment 1000 60000 ≡ 11000
long_silence = refl
