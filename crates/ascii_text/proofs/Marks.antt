-- Where an element passes a test.
use Rattle.std.proofs.Common.{◌≡◌, ℕ, ◌+◌, ◌<◌, Bool, true, false, not, cond, List, [], ◌∷◌, length}
use Rattle.std.proofs.Common.{refl, sym, arith}
use Rattle.std.specs.Prelude.{◌==◌, ◌||◌, Option, Some, None, unwrap_or}
use Rattle.std.specs.List.{list_any, position_or_len}
use Rattle.std.proofs.lemmas.Bool.{false_from_ne_true}
use Rattle.std.proofs.lemmas.List.Sums.{position_or_len_is}
use Rattle.memchr.specs.Find.{IsFirstByte, is_byte}

-- where no place is inside, none passes
pub list_any-none : (p : ℕ → Bool) (xs : List ℕ) → position_or_len p xs ≡ length xs
    → list_any p xs ≡ false
list_any-none p [] h = refl
list_any-none p (x ∷ xs) h =
    elim (p x) as (λ b. cond (not b) (1 + position_or_len p xs) 0 ≡ length (x ∷ xs)
    → (b || list_any p xs) ≡ false) [
      | true ↦ λ e. absurd (omega arith)
      | false ↦ λ e. list_any-none p xs (omega arith)
    ] h

-- where the first place is inside, one passes
pub list_any-some : (p : ℕ → Bool) (xs : List ℕ) → position_or_len p xs < length xs
    → list_any p xs ≡ true
list_any-some p [] h = absurd (omega arith)
list_any-some p (x ∷ xs) h =
    elim (p x) as (λ b. cond (not b) (1 + position_or_len p xs) 0 < length (x ∷ xs)
    → (b || list_any p xs) ≡ true) [
      | true ↦ λ e. refl
      | false ↦ λ e. list_any-some p xs (omega arith)
    ] h

-- what a search for a byte answers is its first place
pub first_byte : (mark : ℕ) (bytes : List ℕ) (r : Option ℕ) → IsFirstByte (is_byte mark) bytes r
    → unwrap_or r (length bytes) ≡ position_or_len (λ b. b == mark) bytes
first_byte mark bytes None h =
    sym (position_or_len_is (λ b. b == mark) bytes (length bytes) 0 (omega arith)
    (λ k lt. false_from_ne_true _ (h k (omega arith) lt)) (λ lt. absurd (omega arith)))
first_byte mark bytes (Some k) h =
    sym (position_or_len_is (λ b. b == mark) bytes k 0 (omega (arith, h.0.high))
    (λ j lt. false_from_ne_true _ (h.0.before j (omega arith) lt)) (λ lt. h.1))
