-- The byte of a channel in a look, as a pass over its pairs leaves it.
use Rattle.std.proofs.Common.{◌≡◌, ℕ, ◌<◌, Bool, true, false, IsTrue, T, List, [], ◌∷◌}
use Rattle.std.proofs.Common.{refl, arith, subst}
use Rattle.std.specs.Prelude.{if◌then◌else◌, unwrap_or, nat_eq, ◌==◌}
use Rattle.std.specs.Cmp.{unsigned_tied, ranks}
use Rattle.std.specs.List.{fold}
use Rattle.std.specs.Ordering.{nat_cmp, is_lt, MatchOrdering}
use Rattle.std.specs.declared.cmp.Ordering.{Ordering}
use Rattle.std.specs.declared.cmp.Ordering.TheVariants.{Less, Equal, Greater}
use Rattle.std.specs.FinMap.{find, is_sorted}
use Rattle.std.specs.FinMap.Entries.{below_all}
use Rattle.std.proofs.lemmas.Bool.Decides.{nat_tests}
use Rattle.show_core.proofs.Sorted.{and_left, and_right, from_true}
use Rattle.fade_core.specs.Level.{byte_of}

-- the byte of a channel after a pass over the pairs, from the byte before it: the last pair of the
-- channel counts
abbrev pub byte_passed : ℕ → ℕ → List (ℕ × ℕ) → ℕ
byte_passed channel before look =
    fold (λ byte pair. if nat_eq pair.0 channel then pair.1 else byte) before look

from_less : {P : Type 0} (Q S : Type 0) (r : Ordering) → MatchOrdering r P Q S → T (is_lt r) → P
from_less Q S Less is h = is
from_less Q S Equal is h = absurd h
from_less Q S Greater is h = absurd h

-- pairs of greater channels leave the byte
byte_passed-below_all : (look : List (ℕ × ℕ)) (channel before : ℕ)
    → T (below_all nat_cmp channel look) → byte_passed channel before look ≡ before
byte_passed-below_all [] channel before h = refl
byte_passed-below_all (pair ∷ look) channel before h =
    let above : channel < pair.0 =
    from_less _ _ (nat_cmp channel pair.0) (ranks channel pair.0) (and_left _ _ h) in
    let other : nat_eq pair.0 channel ≡ false = grind (arith, nat_tests) in
    rw other (byte_passed-below_all look channel before (and_right _ _ h))

-- in a sorted look the last pair of a channel is its only one
byte_passed-sorted_from : (look : List (ℕ × ℕ)) (channel before : ℕ)
    → T (is_sorted nat_cmp look)
    → byte_passed channel before look ≡ unwrap_or (find nat_cmp channel look) before
byte_passed-sorted_from [] channel before h = refl
byte_passed-sorted_from (pair ∷ look) channel before h =
    go (nat_eq pair.0 channel) refl
    (byte_passed-sorted_from look channel before (and_right _ _ h)) where
      go : (b : Bool) → nat_eq pair.0 channel ≡ b
          → byte_passed channel before look ≡ unwrap_or (find nat_cmp channel look) before
          → byte_passed channel before (pair ∷ look)
          ≡ unwrap_or (find nat_cmp channel (pair ∷ look)) before
      go true is rest =
          let same : pair.0 ≡ channel = grind (arith, nat_tests) in
          let found : (channel == pair.0) ≡ true = grind (arith, nat_tests) in
          rw (is, unsigned_tied channel pair.0, found) (byte_passed-below_all look channel pair.1
          (subst (λ k. T (below_all nat_cmp k look)) same (and_left _ _ h)))
      go false is rest =
          let other : (channel == pair.0) ≡ false = grind (arith, nat_tests) in
          rw (is, unsigned_tied channel pair.0, other) rest

pub byte_passed-sorted : (look : List (ℕ × ℕ)) (channel : ℕ) → IsTrue (is_sorted nat_cmp look)
    → byte_passed channel 0 look ≡ byte_of look channel
byte_passed-sorted look channel h = byte_passed-sorted_from look channel 0 (from_true h)
