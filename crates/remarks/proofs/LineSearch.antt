-- A line that is looked for by its number.
use Rattle.std.proofs.Common.{◌≡◌, ◌+◌, ◌-◌, ◌<◌, ◌==◌, ℕ, zero, suc, List, [], ◌∷◌, arith}
use Rattle.std.proofs.Common.{refl, sym}
use Rattle.std.proofs.lemmas.Bool.Decides.{nat_tests}
use Rattle.std.specs.Prelude.{Option, Some, None, if◌then◌else◌, slice_get}
use Rattle.ascii_text.specs.Text.{numbered_from}

-- the first of these lines that has the number
abbrev pub found : ℕ → List (ℕ × List ℕ) → Option (List ℕ)
found number [] = None
found number (line ∷ lines) = if line.0 == number then Some line.1 else found number lines

-- numbers below the first one are those of no line
none_below : (number n : ℕ) (lines : List (List ℕ)) → number < n
    → found number (numbered_from n lines) ≡ None
none_below number n [] below = refl
none_below number n (line ∷ lines) below =
    let rest = none_below number (n + 1) lines (omega arith) in
    grind (arith, nat_tests, rest)

-- where lines are numbered from n on, the line k behind the first has the number n + k
found_at : (n k : ℕ) (lines : List (List ℕ)) → found (n + k) (numbered_from n lines)
    ≡ slice_get lines k
found_at n k [] = refl
found_at n zero (line ∷ lines) = grind (arith, nat_tests)
found_at n (suc k) (line ∷ lines) =
    let rest = found_at (n + 1) k lines in
    grind (arith, nat_tests, rest)

-- the line of a number, from 1
pub numbered : (number : ℕ) (lines : List (List ℕ))
    → (if number == 0 then None else slice_get lines (number - 1))
    ≡ found number (numbered_from 1 lines)
numbered zero lines = sym (none_below 0 1 lines (omega arith))
numbered (suc k) lines =
    let at = found_at 1 k lines in
    grind (arith, nat_tests, at)
