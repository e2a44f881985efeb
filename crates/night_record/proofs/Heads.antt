-- The head in a text.
use Rattle.std.proofs.Common.{◌≡◌, ℕ, ◌+◌, ◌-◌, ◌<◌, ◌≤◌, Bool}
use Rattle.std.proofs.Common.{true, false, cond, ltb, List, [], ◌∷◌, ◌++◌}
use Rattle.std.proofs.Common.{length, take, drop, refl, sym}
use Rattle.std.proofs.Common.{ap, ◌∙◌, arith, length-append, length-drop}
use Rattle.std.specs.Prelude.{◌||◌, ◌&&◌, Some, None}
use Rattle.std.specs.List.{position_or_len}
use Rattle.std.proofs.lemmas.Bool.Decides.{nat_tests}
use Rattle.std.proofs.lemmas.List.{take-append-le}
use Rattle.memchr.specs.Find.{NoneBefore, Nowhere, Passes, is_byte}
use Rattle.ascii_text.specs.Text.{is_newline}
use Rattle.night_record.specs.Opening.{head_in}
use Rattle.night_record.proofs.Ends.{newline_at, no_newline}

-- the head by the places of the first two LF
head_by : (text : List ℕ) (first second : ℕ) → position_or_len is_newline text ≡ first
    → position_or_len is_newline (drop (first + 1) text) ≡ second
    → head_in text ≡ cond (ltb (first + 1 + second) (length text))
    (Some (take (first + 1 + second) text)) None
head_by text first second a b =
    ap (λ (f : ℕ). (λ (s : ℕ). cond (ltb (f + 1 + s) (length text)) (Some (take (f + 1 + s)
    text)) None)
    (position_or_len is_newline (drop (f + 1) text))) a
    ∙ ap (λ (s : ℕ). cond (ltb (first + 1 + s) (length text)) (Some (take (first + 1 + s) text))
    None) b

below : (m n : ℕ) → m < n → ltb m n ≡ true
below m n h = grind (arith, nat_tests)

not_below : (m n : ℕ) → n ≤ m → ltb m n ≡ false
not_below m n h = grind (arith, nat_tests)

pub head_some : (text rest : List ℕ) (first second : ℕ) → rest ≡ drop (first + 1) text
    → NoneBefore (Passes (is_byte 10) text) 0 (length text) first × Passes (is_byte 10) text first
    → NoneBefore (Passes (is_byte 10) rest) 0 (length rest) second
    × Passes (is_byte 10) rest second
    → head_in text ≡ Some (take (first + 1 + second) text)
head_some text rest first second is a b =
    let size : length rest ≡ length text - (first + 1)
    = ap length is ∙ length-drop (first + 1) text in
    head_by text first second (newline_at text first a)
    (ap (position_or_len is_newline) (sym is) ∙ newline_at rest second b)
    ∙ ap (λ t. cond t (Some (take (first + 1 + second) text)) None)
    (below (first + 1 + second) (length text) (omega (arith, b.0.high, a.0.high)))

pub head_none : (text : List ℕ) → Nowhere (Passes (is_byte 10) text) 0 (length text)
    → head_in text ≡ None
head_none text a =
    let second = position_or_len is_newline (drop (length text + 1) text) in
    head_by text (length text) second (no_newline text a) refl
    ∙ ap (λ t. cond t (Some (take (length text + 1 + second) text)) None)
    (not_below (length text + 1 + second) (length text) (omega arith))

pub head_one : (text rest : List ℕ) (first : ℕ) → rest ≡ drop (first + 1) text
    → NoneBefore (Passes (is_byte 10) text) 0 (length text) first × Passes (is_byte 10) text first
    → Nowhere (Passes (is_byte 10) rest) 0 (length rest) → head_in text ≡ None
head_one text rest first is a b =
    let size : length rest ≡ length text - (first + 1)
    = ap length is ∙ length-drop (first + 1) text in
    head_by text first (length rest) (newline_at text first a)
    (ap (position_or_len is_newline) (sym is) ∙ no_newline rest b)
    ∙ ap (λ t. cond t (Some (take (first + 1 + length rest) text)) None)
    (not_below (first + 1 + length rest) (length text) (omega (arith, a.0.high)))

-- a head has an LF more than its text
pub size_is : (lines head : List ℕ) → lines ≡ head ++ 10 ∷ [] → length lines ≡ length head + 1
size_is lines head is = ap length is ∙ length-append head (10 ∷ [])

-- all but the moment of a head's lines
front_is : (lines head : List ℕ) → lines ≡ head ++ 10 ∷ []
    → take (length lines - 25) lines ≡ take (length head - 24) head
front_is lines head is =
    let size = size_is lines head is in
    let few : length lines - 25 ≡ length head - 24 = omega arith in
    ap (λ l. take (length lines - 25) l) is
    ∙ (ap (λ n. take n (head ++ 10 ∷ [])) few
    ∙ take-append-le (length head - 24) head (10 ∷ []) (omega arith))

pub front_seen : (seen lines head : List ℕ) (size : ℕ) → seen ≡ lines → size ≡ length lines - 25
    → lines ≡ head ++ 10 ∷ [] → take size seen ≡ take (length head - 24) head
front_seen seen lines head size same few is = ap (λ n. take n seen) few
    ∙ (ap (λ l. take (length lines - 25) l) same ∙ front_is lines head is)

pub at_first : (a b r : Bool) → r ≡ a → r ≡ true → r ≡ (a || b)
at_first a b r is first = first ∙ sym (ap (λ t. t || b) (sym is ∙ first))

pub at_second : (a b c r s t : Bool) → r ≡ a → r ≡ false → s ≡ b → s ≡ true → t ≡ c
    → t ≡ (a || (b && c))
at_second a b c r s t is not_first at second third = third
    ∙ sym (ap (λ u. u || (b && c)) (sym is ∙ not_first) ∙ ap (λ u. u && c) (sym at ∙ second))

pub at_none : (a b c r s : Bool) → r ≡ a → r ≡ false → s ≡ b → s ≡ false → s ≡ (a || (b && c))
at_none a b c r s is not_first at not_second = not_second
    ∙ sym (ap (λ u. u || (b && c)) (sym is ∙ not_first) ∙ ap (λ u. u && c) (sym at ∙ not_second))
