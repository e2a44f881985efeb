-- Sorted entries of dimmers, by the ordinals of their universes.
use Rattle.show_core.proofs.Terms.{◌≡◌, ℕ, ◌≤◌, ◌<◌, true, false, IsTrue, refl, ap, List, length, get_or}
use Rattle.show_core.proofs.Terms.{arith, nat_lt, list_any, IsNonDecreasingBy, nat_cmp, Less, is_sorted}
use Rattle.show_core.proofs.Terms.{nat_tests, get_or_default, list_any_at, list_any_none, ordinal_of}
use Rattle.std.specs.Prelude.{◌==◌, ◌≢◌}
use Rattle.std.proofs.lemmas.Cmp.{nat_cmp_total}
use Rattle.show_core.proofs.Sorted.{from_true, sorted_at}

ordinal_mono : (a b : ℕ) → a ≤ b → ordinal_of a ≤ ordinal_of b
ordinal_mono a b le = omega arith

pub below_of : (x y : ℕ) → nat_cmp x y ≡ Less → x < y
below_of x y h = grind (arith, nat_tests)

apart : (x y : ℕ) → x ≢ y → (x == y) ≡ false
apart x y h = grind (arith, nat_tests)

module _ {V : Type 0} where
  -- ordinals never fall along the entries
  pub ordinals_rise : (es : List (ℕ × V)) → IsTrue (is_sorted nat_cmp es)
      → IsNonDecreasingBy (λ e. ordinal_of e.0) es
  ordinals_rise es sorted i j d le lt =
      elim (nat_lt i j) as
      (λ b. nat_lt i j ≡ b → ordinal_of (get_or es i d).0 ≤ ordinal_of (get_or es j d).0) [
        | true ↦ λ b.
            let less : i < j = grind (arith, nat_tests) in
            let below = below_of (get_or es i d).0 (get_or es j d).0
            (sorted_at nat_cmp nat_cmp_total es i j d (from_true sorted) less lt) in
            ordinal_mono (get_or es i d).0 (get_or es j d).0 (omega (arith, below))
        | false ↦ λ b.
            let same : i ≡ j = grind (arith, nat_tests) in
            let ordinals = ap (λ k. ordinal_of (get_or es k d).0) same in omega (arith, ordinals)
      ] refl

  -- where the entries below this ordinal end, the next entry tells whether one has it
  module _ (es : List (ℕ × V)) (ordinal at : ℕ) (sorted : IsTrue (is_sorted nat_cmp es))
      (below : (k : ℕ) (d : ℕ × V) → 0 ≤ k → k < at → ordinal_of (get_or es k d).0 < ordinal) where
    none_at : ((k : ℕ) (d : ℕ × V) → at ≤ k → k < length es
        → ordinal < ordinal_of (get_or es k d).0)
        → list_any (λ e. ordinal_of e.0 == ordinal) es ≡ false
    none_at above = list_any_none (λ e. ordinal_of e.0 == ordinal) es (λ k d lt.
        elim (nat_lt k at) as (λ b. nat_lt k at ≡ b → (ordinal_of (get_or es k d).0 == ordinal)
        ≡ false) [
          | true ↦ λ b. let less : k < at = grind (arith, nat_tests) in
              let under = below k d (omega arith) less in
              apart (ordinal_of (get_or es k d).0) ordinal (omega (arith, under))
          | false ↦ λ b. let from : at ≤ k = grind (arith, nat_tests) in
              let over = above k d from lt in
              apart (ordinal_of (get_or es k d).0) ordinal (omega (arith, over))
        ] refl)

    -- they all are below it
    pub passed : length es ≤ at → list_any (λ e. ordinal_of e.0 == ordinal) es ≡ false
    passed over = none_at (λ k d from lt. absurd (omega (arith, over, from, lt)))

    -- the entry there has it, or is above it as all behind are
    pub decided : (d : ℕ × V) → at < length es → ordinal ≤ ordinal_of (get_or es at d).0
        → list_any (λ e. ordinal_of e.0 == ordinal) es ≡ (ordinal_of (get_or es at d).0 == ordinal)
    decided d lt from =
        elim (ordinal_of (get_or es at d).0 == ordinal) as
        (λ b. (ordinal_of (get_or es at d).0 == ordinal) ≡ b
        → list_any (λ e. ordinal_of e.0 == ordinal) es ≡ b) [
          | true ↦ λ is. list_any_at (λ e. ordinal_of e.0 == ordinal) es at d lt is
          | false ↦ λ is.
              let over : ordinal < ordinal_of (get_or es at d).0 = grind (arith, nat_tests) in
              none_at (λ k e after within.
              let rise = ordinals_rise es sorted at k d after within in
              let same = get_or_default es k d e within in
              omega (arith, over, rise, ap (λ x. ordinal_of x.0) same))
        ] refl
