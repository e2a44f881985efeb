-- The place of a universe among consecutive ones.
use Rattle.std.proofs.Common.{◌≡◌, ℕ, ◌+◌, ◌<◌, not, List, length, get_or, Some, None, arith}
use Rattle.std.specs.List.{position, position_or_len}
use Rattle.std.specs.Prelude.{◌==◌}
use Rattle.std.proofs.lemmas.Bool.Decides.{nat_tests}
use Rattle.std.proofs.lemmas.List.Sums.{prefix_len_is}
use Rattle.sacn_source.specs.Consecutive.{AreConsecutive}

found : (us : List ℕ) (u place : ℕ) → position_or_len (λ v. v == u) us ≡ place
    → place < length us → position (λ v. v == u) us ≡ Some place
found us u place is within = grind (arith, nat_tests, is)

missed : (us : List ℕ) (u : ℕ) → position_or_len (λ v. v == u) us ≡ length us
    → position (λ v. v == u) us ≡ None
missed us u is = grind (arith, nat_tests, is)

module _ (us : List ℕ) (u : ℕ) (row : AreConsecutive us) where
  pub there : (place : ℕ) → place < length us → u ≡ get_or us 0 0 + place
      → position (λ v. v == u) us ≡ Some place
  there place within is = found us u place
      (prefix_len_is (λ v. not (v == u)) us place 0 (omega arith)
      (λ k before. grind (arith, nat_tests, row k))
      (λ l. grind (arith, nat_tests, row place within))) within

  pub not_there : ((k : ℕ) → k < length us → get_or us 0 0 + k ≡ u → ⊥)
      → position (λ v. v == u) us ≡ None
  not_there none = missed us u (prefix_len_is (λ v. not (v == u)) us (length us) 0 (omega arith)
      (λ k before. grind (arith, nat_tests, row k before, none k before))
      (λ l. absurd (omega (arith, l))))
