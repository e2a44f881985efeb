-- A universe without a number is one of those of a show.
use Rattle.std.proofs.Common.{◌≡◌, ◌<◌, ◌+◌, ℕ, zero, suc, false, List, [], ◌∷◌}
use Rattle.std.proofs.Common.{arith, get_or, length, nat_le, refl}
use Rattle.std.proofs.Math.Bool.{and-false}
use Rattle.std.proofs.lemmas.Bool.Decides.{nat_tests}
use Rattle.std.proofs.Common.{Result, Ok, Err, inr}
use Rattle.cmd_words.specs.declared.job.Night.{Night}
use Rattle.remarks.specs.declared.failure.JobFault.{JobFault}
use Rattle.show_core.specs.Readers.{patch_ordinals}
use Rattle.show_core.specs.Tables.{Tables}
use Rattle.show_line.specs.Said.{desk_limits}
use Rattle.show_reader.specs.Shows.{IsShowOf}
use Rattle.show_reader.specs.Text.{statements_of}
use Rattle.show_reader.proofs.OneShow.{of_its_show}
use Rattle.night_opening.specs.Fits.{IsFit, SuitsNumbers, have_numbers, numbers_of, universes}

pub no_number : (base : ℕ) (xs : List ℕ) (i : ℕ) → i < length xs → 63999 < base + get_or xs i 0
    → have_numbers (universes base xs) ≡ false
no_number base [] i within over = absurd (omega (arith, within))
no_number base (x ∷ xs) zero within over =
    let e : nat_le (base + x) 63999 ≡ false = grind (arith, nat_tests, over) in rw e refl
no_number base (x ∷ xs) (suc i) within over =
    let later = no_number base xs i (omega (arith, within)) over in
    rw later (and-false (nat_le (base + x) 63999))

-- what the targets are to the show that was read they are to each that the text means
pub fits : (night : Night) (show : List ℕ) (s : Tables) (result : Result Unit JobFault)
    → IsShowOf (statements_of desk_limits show) s
    → SuitsNumbers night.targets (numbers_of (universes night.base (patch_ordinals s.patch))) show
    result
    → IsFit night show result
fits night show s (Ok done) is suits = of_its_show show (λ t. SuitsNumbers night.targets
    (numbers_of (universes night.base (patch_ordinals t.patch))) show (Ok done)) s is suits
fits night show s (Err fault) is suits = inr (of_its_show show (λ t. SuitsNumbers night.targets
    (numbers_of (universes night.base (patch_ordinals t.patch))) show (Err fault)) s is suits)
