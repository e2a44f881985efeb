-- The pairs of a record raise the levels of their channels, one by one.
use Rattle.master_core.proofs.Terms.{◌≡◌, ℕ, ◌+◌, ◌*◌, ◌<◌, ◌≤◌, true, false, IsTrue, T, List, [], ◌∷◌}
use Rattle.master_core.proofs.Terms.{length, get_or, set, refl, ap, ◌∙◌, arith, inl, inr, max}
use Rattle.master_core.proofs.Terms.{unwrap_or, ◌==◌, unsigned_tied, ranks, nat_cmp, is_lt}
use Rattle.master_core.proofs.Terms.{MatchOrdering, Ordering, find, is_sorted, below_all, cases_eq}
use Rattle.master_core.proofs.Terms.{nat_tests, get_or-set_at, get_or-set_other, and_left, and_right}
use Rattle.master_core.proofs.Terms.{from_true, is_channel}

-- the byte of a channel among pairs
abbrev pub byte_in : List (ℕ × ℕ) → ℕ → ℕ
byte_in pairs channel = unwrap_or (find nat_cmp channel pairs) 0

from_less : {P : Type 0} (Q S : Type 0) (r : Ordering) → MatchOrdering r P Q S → T (is_lt r) → P
from_less Q S r is h = grind (arith, is, h)

-- pairs of greater channels have no byte of this one
byte_in-below_all : (pairs : List (ℕ × ℕ)) (channel : ℕ) → T (below_all nat_cmp channel pairs)
    → byte_in pairs channel ≡ 0
byte_in-below_all [] channel h = refl
byte_in-below_all (pair ∷ pairs) channel h =
    let above : channel < pair.0 =
    from_less _ _ (nat_cmp channel pair.0) (ranks channel pair.0) (and_left _ _ h) in
    let other : (channel == pair.0) ≡ false = grind (arith, nat_tests) in
    rw (unsigned_tied channel pair.0, other) (byte_in-below_all pairs channel (and_right _ _ h))

-- the next pair raises its channel, and none behind it is of this channel
pub raised_more : (pair : ℕ × ℕ) (rest : List (ℕ × ℕ)) (floors : List ℕ) (at level master : ℕ)
    → IsTrue (is_sorted nat_cmp (pair ∷ rest)) → at + 1 ≡ pair.0 → at < length floors
    → level ≡ max (get_or floors at 0) (pair.1 * master) → (place : ℕ)
    → max (get_or (set floors at level) place 0) (byte_in rest (place + 1) * master)
    ≡ max (get_or floors place 0) (byte_in (pair ∷ rest) (place + 1) * master)
raised_more pair rest floors at level master sorted next lt is place = elim (cases_eq place at) [
  | inl same ↦
      let found : (place + 1 == pair.0) ≡ true = grind (arith, nat_tests) in
      let none : byte_in rest (place + 1) ≡ 0 = ap (byte_in rest) (omega arith)
      ∙ byte_in-below_all rest pair.0 (and_left _ _ (from_true sorted)) in
      let was = ap (λ k. get_or floors k 0) same in
      let here = get_or-set_at floors at place level 0 same lt in
      rw (unsigned_tied (place + 1) pair.0, found, here, none) (omega (arith, is, was))
  | inr other ↦
      let apart : (place + 1 == pair.0) ≡ false = grind (arith, nat_tests) in
      rw (unsigned_tied (place + 1) pair.0, apart, get_or-set_other floors at place level 0 other)
      refl
]

-- a channel has a place
pub in_place : (channel : ℕ) → IsTrue (is_channel channel) → (1 ≤ channel) × (channel ≤ 4096)
in_place channel is = (grind (arith, nat_tests), grind (arith, nat_tests))
