-- Where LF stands in a text.
use Rattle.std.proofs.Common.{◌≡◌, ℕ, ◌+◌, ◌<◌, List, [], ◌∷◌, ◌++◌, length, take, drop}
use Rattle.std.proofs.Common.{get_or, sym, ap, ◌∙◌}
use Rattle.std.proofs.Common.{arith, append_assoc, length-drop, suc, is_some}
use Rattle.std.specs.Prelude.{◌==◌, Option, Some, None}
use Rattle.std.specs.List.{list_any, position_or_len}
use Rattle.std.proofs.lemmas.Bool.{eqb-true, false_from_ne_true}
use Rattle.std.proofs.lemmas.List.{get_or-drop, get_or-take, length-take-le, take-append-drop}
use Rattle.std.proofs.Math.Seq.{drop-cons}
use Rattle.std.proofs.lemmas.List.Sums.{position_or_len_is}
use Rattle.ascii_text.proofs.Marks.{list_any-none, list_any-some}
use Rattle.memchr.specs.Find.{IsFirstByte, NoneAfter, NoneBefore, Nowhere, Passes, is_byte}
use Rattle.ascii_text.specs.Text.{is_newline}
use Rattle.ascii_text.specs.Lines.{Cut, cut_of}
use Rattle.night_record.specs.WholeLines.{whole_length}
use Rattle.night_record.proofs.Parting.{cut_plain, ends_with_none}

-- no LF was found
pub no_newline : (text : List ℕ) → Nowhere (Passes (is_byte 10) text) 0 (length text)
    → position_or_len is_newline text ≡ length text
no_newline text h = position_or_len_is (λ b. b == 10) text (length text) 0 (omega arith)
    (λ k lt. false_from_ne_true _ (h k (omega arith) lt)) (λ lt. absurd (omega arith))

-- the first LF was found
pub newline_at : (text : List ℕ) (k : ℕ)
    → NoneBefore (Passes (is_byte 10) text) 0 (length text) k × Passes (is_byte 10) text k
    → position_or_len is_newline text ≡ k
newline_at text k h = position_or_len_is (λ b. b == 10) text k 0 (omega (arith, h.0.high))
    (λ j lt. false_from_ne_true _ (h.0.before j (omega arith) lt)) (λ lt. h.1)

-- what stands before the first LF has none
pub none_before : (text : List ℕ) (k : ℕ)
    → NoneBefore (Passes (is_byte 10) text) 0 (length text) k × Passes (is_byte 10) text k
    → position_or_len is_newline (take k text) ≡ length (take k text)
none_before text k h =
    let size : length (take k text) ≡ k = length-take-le k text (omega (arith, h.0.high)) in
    position_or_len_is (λ b. b == 10) (take k text) (length (take k text)) 0 (omega arith)
    (λ j lt. ap (λ b. b == 10) (get_or-take k text j 0 (omega arith))
    ∙ false_from_ne_true _ (h.0.before j (omega arith) (omega arith)))
    (λ lt. absurd (omega arith))

-- nor does what stands behind the last one
pub none_behind : (text : List ℕ) (k : ℕ)
    → NoneAfter (Passes (is_byte 10) text) 0 (length text) k × Passes (is_byte 10) text k
    → position_or_len is_newline (drop (k + 1) text) ≡ length (drop (k + 1) text)
none_behind text k h =
    let size = length-drop (k + 1) text in
    position_or_len_is (λ b. b == 10) (drop (k + 1) text) (length (drop (k + 1) text)) 0
    (omega arith)
    (λ j lt. ap (λ b. b == 10) (get_or-drop (k + 1) text j 0)
    ∙ false_from_ne_true _ (h.0.after (k + 1 + j) (omega arith) (omega (arith, size, h.0.high))))
    (λ lt. absurd (omega arith))

from_newline : (text : List ℕ) (k : ℕ) → k < length text → Passes (is_byte 10) text k
    → drop k text ≡ 10 ∷ drop (k + 1) text
from_newline text k lt is =
    let next : suc k ≡ k + 1 = omega arith in
    drop-cons text k 0 lt
    ∙ (ap (λ b. b ∷ drop (suc k) text) (eqb-true (get_or text k 0) 10 is)
    ∙ ap (λ n. 10 ∷ drop n text) next)

-- a text around an LF
pub around : (text : List ℕ) (k : ℕ) → k < length text → Passes (is_byte 10) text k
    → text ≡ (take k text ++ 10 ∷ []) ++ drop (k + 1) text
around text k lt is = sym (take-append-drop k text)
    ∙ (ap (λ behind. take k text ++ behind) (from_newline text k lt is)
    ∙ sym (append_assoc (take k text) (10 ∷ []) (drop (k + 1) text)))

-- a text without an LF has no whole line
pub whole_none : (text : List ℕ) → Nowhere (Passes (is_byte 10) text) 0 (length text)
    → 0 ≡ whole_length text
whole_none text h =
    let is : length (cut_of text).rest ≡ length text =
    ap (λ (c : Cut). length c.rest) (cut_plain [] text (no_newline text h)) in
    omega arith

-- behind an LF that is the last, a line begins
rest_behind : (front behind : List ℕ)
    → position_or_len is_newline behind ≡ length behind
    → (cut_of ((front ++ 10 ∷ []) ++ behind)).rest ≡ behind
rest_behind front behind h = ap (λ (c : Cut). c.rest) (cut_plain (front ++ 10 ∷ []) behind h)
    ∙ ap (λ r. r ++ behind) (ends_with_none front)

-- the whole lines of a text end behind its last LF
pub whole_at : (text : List ℕ) (k : ℕ)
    → NoneAfter (Passes (is_byte 10) text) 0 (length text) k × Passes (is_byte 10) text k
    → k + 1 ≡ whole_length text
whole_at text k h =
    let parts = around text k h.0.high h.1 in
    let rest : (cut_of text).rest ≡ drop (k + 1) text = ap (λ t. (cut_of t).rest) parts
    ∙ rest_behind (take k text) (drop (k + 1) text) (none_behind text k h) in
    let size : length (cut_of text).rest ≡ length (drop (k + 1) text) = ap length rest in
    omega (arith, length-drop (k + 1) text, h.0.high)

-- whether there is an LF
pub has_newline : (text : List ℕ) (r : Option ℕ) → IsFirstByte (is_byte 10) text r
    → is_some r ≡ list_any is_newline text
has_newline text None h = sym (list_any-none is_newline text (no_newline text h))
has_newline text (Some k) h = sym (list_any-some is_newline text
    (omega (arith, newline_at text k h, h.0.high)))
