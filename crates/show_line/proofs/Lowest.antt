-- The lowest of several faults.
use Rattle.show_line.proofs.Terms.{◌≡◌, ℕ, true, false, refl, sym, arith, List, Option, Some, None}
use Rattle.show_line.proofs.Terms.{nat_lt, if◌then◌else◌, Result, Ok, Err, MatchResult, result_err}
use Rattle.show_line.proofs.Terms.{nat_tests, none-some, number_of, LineFault, rank_of, lower}

lower_two : (x y : LineFault) → lower (lower (Some x) (Some y)) None ≡ lower (Some x) (Some y)
lower_two x y = grind (arith, nat_tests)

lower_three : (x y z : LineFault)
    → lower (lower (Some x) (Some y)) (Some z) ≡ lower (Some x) (lower (Some y) (Some z))
lower_three x y z = grind (arith, nat_tests)

-- the order of comparison does not matter
pub lower_assoc : (a b c : Option LineFault) → lower (lower a b) c ≡ lower a (lower b c)
lower_assoc None b c = refl
lower_assoc (Some x) None c = refl
lower_assoc (Some x) (Some y) None = lower_two x y
lower_assoc (Some x) (Some y) (Some z) = lower_three x y z

-- no fault changes nothing
pub lower_none : (a : Option LineFault) → lower a None ≡ a
lower_none None = refl
lower_none (Some x) = refl

some_of_two : (x y : LineFault) → lower (Some x) (Some y) ≡ None → ⊥
some_of_two x y = elim (nat_lt (rank_of y) (rank_of x)) as
    (λ b. (if b then Some y else Some x) ≡ None → ⊥) [
      | true ↦ λ h. none-some y (sym h)
      | false ↦ λ h. none-some x (sym h)
    ]

-- where the lower of two is none, both are
pub lower_both : (a b : Option LineFault) → lower a b ≡ None → (a ≡ None) × (b ≡ None)
lower_both None b h = (refl, h)
lower_both (Some x) None h = absurd (none-some x (sym h))
lower_both (Some x) (Some y) h = absurd (some_of_two x y h)

-- a fault that is there is not lost
pub lower_some : (a : Option LineFault) (f : LineFault) → lower a (Some f) ≡ None → ⊥
lower_some a f h = none-some f (sym (lower_both a (Some f) h).1)

-- of all words the fault is the lower of the lowest so far and of that of the words left
abbrev pub IsLowestSoFar : (List (List ℕ) → Option LineFault) → List (List ℕ) → List (List ℕ)
    → Option LineFault → Type 0
IsLowestSoFar fault_in all left lowest = fault_in all ≡ lower lowest (fault_in left)

-- the fault of a word is that of its number
pub err_of : (word : List ℕ) (fault : Option LineFault) (number : Result ℕ LineFault)
    → MatchResult number (λ n. (fault ≡ None) × (number_of word ≡ Some n)) (λ e. fault ≡ Some e)
    → result_err number ≡ fault
err_of word fault (Ok n) is = sym is.0
err_of word fault (Err e) is = sym is
