-- Keys that stand for numbers.
-- Of use inside the crate: what its public calls answer is said without these.
use Rattle.std.specs.Prelude.{◌≡◌, ℕ, List, map}
use Rattle.std.specs.Ordering.{nat_cmp}
use Rattle.std.specs.Cmp.{IsTotalOrder}
use Rattle.std.specs.declared.cmp.Ordering.{Ordering}

-- a key is compared by its number
pub record IsNumbered {K : Type 0} (R : K → K → Ordering) (number : K → ℕ) : Type 0 where
  pub total : IsTotalOrder R
  pub by_number : (a b : K) → R a b ≡ nat_cmp (number a) (number b)

-- the entries by the numbers of their keys
abbrev pub entries_by_number : {K V : Type 0} → (K → ℕ) → List (K × V) → List (ℕ × V)
entries_by_number number = map (λ e. (number e.0, e.1))
