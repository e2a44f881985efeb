-- The lines of a text, from its front.
use Rattle.std.proofs.Common.{◌≡◌, ℕ, suc, ◌+◌, ◌<◌, cond, not, true, false, List, [], ◌∷◌, length}
use Rattle.std.proofs.Common.{take, drop}
use Rattle.std.proofs.Common.{refl, sym, ap, ◌∙◌, ◌-◌, ◌≤◌, ◌⊎◌, inl, inr, arith}
use Rattle.std.proofs.lemmas.List.{take_rest}
use Rattle.std.proofs.Math.ListN.{drop_of_length-le}
use Rattle.std.specs.List.{onto_first, position_or_len}
use Rattle.ascii_text.specs.Text.{is_newline, lines_of}

one_more : (n : ℕ) → 1 + n ≡ suc n
one_more n = omega arith

-- the first line goes up to the first LF, and the others are those of what stands behind it
lines_of-front : (x : ℕ) (xs : List ℕ) → lines_of (x ∷ xs)
    ≡ take (position_or_len is_newline (x ∷ xs)) (x ∷ xs)
    ∷ lines_of (drop (position_or_len is_newline (x ∷ xs) + 1) (x ∷ xs))
lines_of-front x [] = elim (is_newline x) as (λ b. cond b ([] ∷ []) ((x ∷ []) ∷ [])
    ≡ take (cond (not b) 1 0) (x ∷ []) ∷ lines_of (drop (cond (not b) 1 0 + 1) (x ∷ [])))
    [ true ↦ refl | false ↦ refl ]
lines_of-front x (y ∷ ys) =
    let end = position_or_len is_newline (y ∷ ys) in
    elim (is_newline x) as (λ b. cond b ([] ∷ lines_of (y ∷ ys)) (onto_first x (lines_of (y ∷ ys)))
    ≡ take (cond (not b) (1 + end) 0) (x ∷ y ∷ ys) ∷ lines_of
    (drop (cond (not b) (1 + end) 0 + 1) (x ∷ y ∷ ys))) [
      | true ↦ refl
      | false ↦ let e : 1 + end + 1 ≡ suc (end + 1) = omega arith in
          rw (e, one_more end) (ap (onto_first x) (lines_of-front y ys))
    ]

-- what `&s[a..]` is, where a is just behind the first LF or at the end
pub next_line : (s : List ℕ) (e a : ℕ) → 0 < length s → e ≡ position_or_len is_newline s
    → ((e < length s) × (a ≡ e + 1)) ⊎ ((length s ≤ e) × (a ≡ length s))
    → lines_of s ≡ take e s ∷ lines_of (take (length s - a) (drop a s))
next_line [] e a h is way = absurd (omega arith)
next_line (x ∷ xs) e a h is way =
    rw (take_rest (x ∷ xs) a, is)
    (lines_of-front x xs
    ∙ ap (λ t. take (position_or_len is_newline (x ∷ xs)) (x ∷ xs) ∷ lines_of t) (same way))
  where
    same : ((e < length (x ∷ xs)) × (a ≡ e + 1)) ⊎ ((length (x ∷ xs) ≤ e) × (a ≡ length (x ∷ xs)))
        → drop (position_or_len is_newline (x ∷ xs) + 1) (x ∷ xs) ≡ drop a (x ∷ xs)
    same (inl w) = rw (w.1, is) refl
    same (inr w) = drop_of_length-le (x ∷ xs) {i = position_or_len is_newline (x ∷ xs) + 1}
        (omega arith)
        ∙ sym (drop_of_length-le (x ∷ xs) {i = a} (omega arith))
