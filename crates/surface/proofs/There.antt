-- A record that was opened is there, and a change of it leaves it there.
use Rattle.std.proofs.Common.{◌≡◌, ℕ, cond, Some, arith}
use Rattle.std.specs.Prelude.{◌==◌}
use Rattle.std.specs.Ordering.{nat_cmp}
use Rattle.std.specs.FinMap as map
pub use Rattle.std.proofs.lemmas.Bool.Decides.{nat_tests}

pub get-insert : {V : Type 0} (m : map.FinMap nat_cmp V) (n : ℕ) (v : V) (q : ℕ)
    → map.get (map.insert m n v) q ≡ cond (q == n) (Some v) (map.get m q)
get-insert m n v q = grind (arith, map.gets, nat_tests)

pub ruleset there = (get-insert, nat_tests)
