-- The words of a line, from its front.
use Rattle.std.proofs.Common.{◌≡◌, ℕ, zero, suc, ◌+◌, ◌-◌, ◌<◌, true, false, cond, not, List, []}
use Rattle.std.proofs.Common.{◌∷◌, length, take, drop}
use Rattle.std.proofs.Common.{refl, sym, ap, subst, ◌∙◌, arith}
use Rattle.std.proofs.lemmas.Bool.{eqb-true}
use Rattle.std.proofs.lemmas.Grind.{common_steps}
use Rattle.std.specs.Prelude.{filter}
use Rattle.std.specs.List.{slice_split, onto_first, prefix_len, position_or_len, before_first}
use Rattle.ascii_text.specs.Text.{is_separator, is_bang, is_word_end, is_word, parts_of, words_of}

one_more : (n : ℕ) → 1 + n ≡ suc n
one_more n = omega arith

-- no separator begins a comment
no_bang : (b : ℕ) → is_separator b ≡ true → is_bang b ≡ false
no_bang b h = elim (is_bang b) as (λ t. is_bang b ≡ t → t ≡ false) [
  | true ↦ λ e. let at : is_separator 33 ≡ true = sym (ap is_separator (eqb-true b 33 e))
      ∙ h in sym at
  | false ↦ λ e. refl
] refl

-- a separator in front adds no word
words_of-separator : (x : ℕ) (xs : List ℕ) → is_separator x ≡ true → words_of (x ∷ xs) ≡ words_of xs
words_of-separator x xs e = rw (no_bang x e, one_more (position_or_len is_bang xs), e) refl

-- nor do several
words_of-drop : (xs : List ℕ) → words_of (drop (prefix_len is_separator xs) xs) ≡ words_of xs
words_of-drop [] = refl
words_of-drop (x ∷ xs) = elim (is_separator x) as (λ b. is_separator x ≡ b →
    words_of (drop (cond b (1 + prefix_len is_separator xs) 0) (x ∷ xs)) ≡ words_of (x ∷ xs)) [
      | true ↦ λ e. rw (one_more (prefix_len is_separator xs))
          (words_of-drop xs ∙ sym (words_of-separator x xs e))
      | false ↦ λ e. refl
    ] refl

-- before the comment, the first part ends where the word at the front does
record IsCut (xs : List ℕ) : Type 0 where
  place : position_or_len is_separator (before_first is_bang xs) ≡ position_or_len is_word_end xs
  front : take (position_or_len is_word_end xs) (before_first is_bang xs)
      ≡ take (position_or_len is_word_end xs) xs
  back : before_first is_bang (drop (position_or_len is_word_end xs) xs)
      ≡ drop (position_or_len is_word_end xs) (before_first is_bang xs)

cut : (xs : List ℕ) → IsCut xs
cut [] = record { place = refl; front = refl; back = refl }
cut (x ∷ xs) =
    let bang = position_or_len is_bang xs in
    let end = position_or_len is_word_end xs in
    elim (is_separator x) as (λ b. is_separator x ≡ b → IsCut (x ∷ xs)) [
      | true ↦ λ e. let g = no_bang x e in record {
        place = rw (g, one_more bang, e) refl;
        front = rw (g, one_more bang, e) refl;
        back = rw e refl;
      }
      | false ↦ λ e. elim (is_bang x) as (λ b. is_bang x ≡ b → IsCut (x ∷ xs)) [
        | true ↦ λ g. record {
          place = rw (g, e) refl;
          front = rw (g, e) refl;
          back =
              rw (g, e, g) refl;
        }
        | false ↦ λ g. let ih = cut xs in record {
          place = rw (g, one_more bang, e) (ap (λ n. 1 + n) ih.place);
          front = rw (g, e, one_more bang, one_more end) (ap (λ l. x ∷ l) ih.front);
          back = rw (g, e, one_more bang, one_more end) ih.back;
        }
      ] refl
    ] refl

-- the first part goes up to the first separator, and the others are those of what stands from there
-- on
split_front : (xs : List ℕ) → (tail : List (List ℕ))
    × (slice_split is_separator xs ≡ take (position_or_len is_separator xs) xs ∷ tail)
    × (parts_of (drop (position_or_len is_separator xs) xs) ≡ filter is_word tail)
split_front [] = ([], refl, refl)
split_front (x ∷ xs) = elim (is_separator x) as (λ b. is_separator x ≡ b → (tail : List (List ℕ))
    × (cond b ([] ∷ slice_split is_separator xs) (onto_first x (slice_split is_separator xs))
    ≡ take (cond (not b) (1 + position_or_len is_separator xs) 0) (x ∷ xs) ∷ tail)
    × (parts_of (drop (cond (not b) (1 + position_or_len is_separator xs) 0) (x ∷ xs))
    ≡ filter is_word tail)) [
      | true ↦ λ e. (slice_split is_separator xs, refl, rw e refl)
      | false ↦ λ e. let ih = split_front xs in
          (ih.0, rw one_more (ap (onto_first x) ih.1), rw one_more ih.2)
    ] refl

is_word_yes : (w : List ℕ) → 0 < length w → is_word w ≡ true
is_word_yes [] h = absurd (omega arith)
is_word_yes (b ∷ bs) h = refl

-- bytes that begin with a word have it as their first part
parts_of-word : (xs : List ℕ) → 0 < length (take (position_or_len is_separator xs) xs)
    → parts_of xs ≡ take (position_or_len is_separator xs) xs ∷ parts_of
    (drop (position_or_len is_separator xs) xs)
parts_of-word xs h =
    let s = split_front xs in
    rw (s.1, s.2, is_word_yes (take (position_or_len is_separator xs) xs) h) refl

-- a line that begins with a word has it as its first
words_of-word : (xs : List ℕ) → 0 < length (take (position_or_len is_word_end xs) xs)
    → words_of xs ≡ take (position_or_len is_word_end xs) xs ∷ words_of
    (drop (position_or_len is_word_end xs) xs)
words_of-word xs h =
    let c = cut xs in
    rw (c.place, c.front, ← c.back) at
    (parts_of-word (before_first is_bang xs) (rw (c.place, c.front) h))

-- a line with no word past its separators has none
words_of-none : (xs : List ℕ)
    → length (take (position_or_len is_word_end (drop (prefix_len is_separator xs) xs))
    (drop (prefix_len is_separator xs) xs)) ≡ 0
    → words_of xs ≡ []
words_of-none [] h = refl
words_of-none (x ∷ xs) h = elim (is_separator x) as (λ b. is_separator x ≡ b
    → length (take (position_or_len is_word_end
    (drop (cond b (1 + prefix_len is_separator xs) 0) (x ∷ xs)))
    (drop (cond b (1 + prefix_len is_separator xs) 0) (x ∷ xs))) ≡ 0
    → words_of (x ∷ xs) ≡ []) [
      | true ↦ λ e h. words_of-separator x xs e
          ∙ words_of-none xs (rw (one_more (prefix_len is_separator xs)) at h)
      | false ↦ λ e h. elim (is_bang x) as (λ b. is_bang x ≡ b → words_of (x ∷ xs) ≡ []) [
        | true ↦ λ g. rw g refl
        | false ↦ λ g. let h' = rw (g, e, one_more (position_or_len is_word_end xs)) at h in
            absurd (omega arith)
      ] refl
    ] refl h

drop_none : (n : ℕ) (xs : List ℕ) → length (take n xs) ≡ 0 → drop n xs ≡ xs
drop_none zero xs h = refl
drop_none (suc n) [] h = refl
drop_none (suc n) (x ∷ xs) h = absurd (omega arith)

-- what `&s[k..]` is
pub tail_is : (s : List ℕ) (k : ℕ) → take (length s - k) (drop k s) ≡ drop k s
tail_is s k = grind (arith, common_steps)

-- the word in front, behind k separators and of e bytes, and the words of what is left
pub next_word : (s : List ℕ) (k e : ℕ) (t : List ℕ) → t ≡ drop k s → k ≡ prefix_len is_separator s
    → e ≡ position_or_len is_word_end t → 0 < length (take e t)
    → words_of s ≡ take e t ∷ words_of (drop e t)
next_word s k e t a b c h =
    let from : t ≡ drop (prefix_len is_separator s) s = a ∙ ap (λ n. drop n s) b in
    sym (words_of-drop s) ∙ sym (ap words_of from) ∙ rw c (words_of-word t (rw c at h))

-- no word in front: none at all, and none is left
pub no_word : (s : List ℕ) (k e : ℕ) (t : List ℕ) → t ≡ drop k s → k ≡ prefix_len is_separator s
    → e ≡ position_or_len is_word_end t → length (take e t) ≡ 0 → (words_of s ≡ [])
    × (words_of (drop e t) ≡ [])
no_word s k e t a b c h =
    let from : t ≡ drop (prefix_len is_separator s) s = a ∙ ap (λ n. drop n s) b in
    let empty : length (take (position_or_len is_word_end t) t) ≡ 0 = rw c at h in
    let none : words_of s ≡ []
    = words_of-none s (subst (λ u. length (take (position_or_len is_word_end u) u) ≡ 0) from empty)
    in
    (none, ap words_of (drop_none e t h) ∙ ap words_of from ∙ words_of-drop s ∙ none)
