-- The text of a line without its keys.
use Rattle.live_input.proofs.Terms.{◌≡◌, ◌≤◌, ◌+◌, ℕ, suc, arith, List, [], ◌∷◌, length}
use Rattle.live_input.proofs.Terms.{length-append, refl, ap, All, decimal, cond_both, not-true}
use Rattle.live_input.proofs.Terms.{All-cons, All-head, All-nil, All-tail, Part, Text, is_escape}
use Rattle.live_input.proofs.Terms.{is_text_byte, part_after, text_from, without_keys}
use Rattle.live_input.proofs.Terms.{behind_moment}

-- it is no longer than the line
text_short : (part : Part) (line : List ℕ) → length (text_from part line) ≤ length line
text_short part [] = omega arith
text_short part (b ∷ line) =
    let rest = text_short (part_after part b) line in
    cond_both (is_text_byte part b) _ _ (λ (text : List ℕ). length text ≤ suc (length line))
    (λ e. omega (arith, rest)) (λ e. omega (arith, rest))

pub spaced : (n : ℕ) (words : List ℕ)
    → length (behind_moment n words) ≡ length (decimal n) + suc (length words)
spaced n words = simp length-append (omega arith)

pub keys_short : (n : ℕ) (line : List ℕ) → length (behind_moment n line) ≤ 200
    → length (behind_moment n (without_keys line)) ≤ 200
keys_short n line fit =
    let short : length (without_keys line) ≤ length line = text_short Text line in
    omega (arith, spaced n line, spaced n (without_keys line), short, fit)

-- what holds of all bytes of a line holds of those of its text
text_whole : (P : ℕ → Type 0) (part : Part) (line : List ℕ) → All P line
    → All P (text_from part line)
text_whole P part [] h = All-nil P
text_whole P part (b ∷ line) h =
    let rest = text_whole P (part_after part b) line (All-tail P b line h) in
    cond_both (is_text_byte part b) _ _ (All P)
    (λ e. All-cons P b _ (All-head P b line h) rest) (λ e. rest)

pub keys_whole : (P : ℕ → Type 0) (line : List ℕ) → All P line → All P (without_keys line)
keys_whole P = text_whole P Text

-- what is left has no keys
pub text_again : (part : Part) (line : List ℕ)
    → without_keys (text_from part line) ≡ text_from part line
text_again part [] = refl
text_again Text (b ∷ line) = cond_both (is_text_byte Text b) _ _ (λ text. without_keys text ≡ text)
    (λ is. rw (not-true (is_escape b) is) (ap (λ text. b ∷ text) (text_again Text line)))
    (λ none. text_again (part_after Text b) line)
text_again part (b ∷ line) = text_again (part_after part b) line
