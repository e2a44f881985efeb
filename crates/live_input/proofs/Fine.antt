-- The lines that are given, as `play` reads them.
use Rattle.live_input.proofs.Terms.{◌≡◌, ◌≤◌, ◌<◌, ◌^◌, ℕ, true, false, refl, ap, ◌∙◌, arith, List}
use Rattle.live_input.proofs.Terms.{[], ◌∷◌, ◌++◌, length, fold, reverse, append_assoc}
use Rattle.live_input.proofs.Terms.{length-append, Option, Some, None, ◌+◌, append-nil, take_all}
use Rattle.live_input.proofs.Terms.{fold-append, ◌==◌, is_some, codes, decimal, flat_map, not, All}
use Rattle.live_input.proofs.Terms.{list_all, cond_both, not-true, elements, moves}
use Rattle.live_input.proofs.Terms.{AllPass-from_list_all, length-decimal-le, All-append, All-cons}
use Rattle.live_input.proofs.Terms.{All-drop, All-head, All-nil, All-push, All-tail, All-take}
use Rattle.live_input.proofs.Terms.{All-weaker, lines_of, words_of, Instruction, call_of, instruction_of}
use Rattle.live_input.proofs.Terms.{is_malformed, reading_of, PlayTakes, IsSpelled, SpellsInstruction}
use Rattle.live_input.proofs.Terms.{lines_text, Answer, Happening, answer_to, answers, asked}
use Rattle.live_input.proofs.Terms.{behind_moment, bytes_come, lines_given, unanswered_lines}
use Rattle.live_input.proofs.Terms.{TypedLines, nothing_typed, says_nothing, typed_of}
use Rattle.live_input.proofs.Terms.{with_typed_byte, without_keys}
use Rattle.live_input.proofs.TypedLemmas.{more_typed}
use Rattle.console.specs.Spelling as spelling
use Rattle.live_input.proofs.Cases.{Keeps, Next, answer_is_next, clock_below, through}
use Rattle.live_input.proofs.Cases.{closes, darkens, dims, leaves, takes, ticks}
use Rattle.live_input.proofs.KeyLemmas.{keys_short, keys_whole}
use Rattle.live_input.proofs.Spelled.{call_is, no_digit, reading_is}

-- ---- what lines spell

pub spells : (n : ℕ) (line : List ℕ) → n < 2 ^ 48 → (spelled : Option Instruction)
    → instruction_of (words_of line) ≡ spelled → is_some spelled ≡ true
    → SpellsInstruction spelled n line × (is_malformed (reading_of (behind_moment n line)) ≡ false)
spells n line below None e some = cc
spells n line below (Some instruction) e some =
    let is = reading_is n line below
    ∙ ap (spelling.reading_at (Some n)) (call_is (words_of line) instruction e) in
    (is, ap is_malformed is)

spelled_by : (h : List Happening) (n : ℕ) (answer : Answer) → Next h n answer → n < 2 ^ 48
    → IsSpelled answer
spelled_by h n _ (takes line later is on fit c spelled other) below =
    (spells n (without_keys line) below _ refl (rw spelled refl)).0
spelled_by h n _ (darkens line later is on) below = reading_is n (codes "master 0") below
spelled_by h n _ (dims on owed) below = reading_is n (codes "master 0") below
spelled_by h n _ (leaves line later is on) below = reading_is n (codes "end") below
spelled_by h n _ (closes dark) below = reading_is n (codes "end") below
spelled_by h n _ (ticks on light late) below = reading_is n (codes "tick") below
spelled_by h n _ _ below = tt

pub spelled : (h : List Happening) (moment : ℕ) → IsSpelled (answer_to h moment)
spelled h moment =
    spelled_by h _ _ (answer_is_next h moment) (clock_below (asked moment ∷ h))

-- ---- lines without LF

abbrev pub NotLf : ℕ → Type 0
NotLf b = (b == 10) ≡ false

abbrev NoLf : TypedLines → Type 0
NoLf typed = All (All NotLf) typed.lines × All NotLf typed.rest

byte_no_lf : (t : TypedLines) (b : ℕ) → NoLf t → NoLf (with_typed_byte t b)
byte_no_lf t b h = cond_both (b == 10) _ _ NoLf
    (λ lf. (
      cond_both (says_nothing t.rest) _ _ (All (All NotLf)) (λ e. h.0)
          (λ e. All-push (All NotLf) t.lines t.rest h.0 h.1),
      All-nil NotLf,
    ))
    (λ other. (h.0, All-take NotLf 201 _ (All-push NotLf t.rest b h.1 other)))

typed_no_lf : (t : TypedLines) (bytes : List ℕ) → NoLf t → NoLf (fold with_typed_byte t bytes)
typed_no_lf t [] h = h
typed_no_lf t (b ∷ bytes) h = typed_no_lf (with_typed_byte t b) bytes (byte_no_lf t b h)

pub left_no_lf : (h : List Happening) → All (All NotLf) (unanswered_lines (answers h) h)
left_no_lf h = All-drop (All NotLf) _ (typed_of (bytes_come h)).lines
    (typed_no_lf nothing_typed (bytes_come h) (All-nil (All NotLf), All-nil NotLf)).0

-- what has no LF goes into the line
line_whole : (lines : List (List ℕ)) (rest text : List ℕ) → All NotLf text
    → length rest + length text ≤ 200
    → fold with_typed_byte (record { lines = lines; rest = rest }) text
    ≡ record { lines = lines; rest = rest ++ text }
line_whole lines rest [] whole fit = rw append-nil refl
line_whole lines rest (b ∷ text) whole fit =
    let fits : length (rest ++ b ∷ []) ≤ 201 = simp length-append (omega arith) in
    let more : length (rest ++ b ∷ []) + length text ≤ 200 = simp length-append (omega arith) in
    rw (All-head NotLf b text whole, take_all 201 (rest ++ b ∷ []) fits)
    (line_whole lines (rest ++ b ∷ []) text (All-tail NotLf b text whole) more
    ∙ rw append_assoc refl)

-- and an LF ends it
pub line_typed : (bytes text : List ℕ) (lines : List (List ℕ))
    → typed_of bytes ≡ record { lines = lines; rest = [] } → All NotLf text
    → length text ≤ 200 → says_nothing text ≡ false
    → typed_of (bytes ++ (text ++ 10 ∷ [])) ≡ record { lines = lines ++ text ∷ []; rest = [] }
line_typed bytes text lines is whole fit says =
    let line = line_whole lines [] text whole (omega arith) in
    more_typed bytes (text ++ 10 ∷ []) ∙ rw (is, fold-append with_typed_byte, line, says) refl

-- ---- the lines that are given

record IsGood (line : List ℕ) : Type 0 where
  good : is_malformed (reading_of line) ≡ false
  short : length line ≤ 200
  whole : All NotLf line

one_good : (n : ℕ) (line : List ℕ) → is_malformed (reading_of (behind_moment n line)) ≡ false
    → length (behind_moment n line) ≤ 200 → All NotLf line → IsGood (behind_moment n line)
one_good n line good short whole = record {
  good = good;
  short = short;
  whole = All-append NotLf (decimal n ++ codes " ") line (All-push NotLf (decimal n) 32
      (no_digit (λ b. b == 10) refl n) refl) whole;
}

-- a short word behind a moment
pub word_fits : (n : ℕ) (word : List ℕ) → n < 2 ^ 48 → length word ≤ 8
    → length (behind_moment n word) ≤ 200
word_fits n word below short = simp length-append (omega (arith, length-decimal-le 15 n))

pub word_whole : (word : List ℕ) → list_all (λ b. not (b == 10)) word ≡ true → All NotLf word
word_whole word whole =
    All-weaker _ NotLf (λ b. not-true (b == 10)) word (AllPass-from_list_all _ word whole)

-- `master 0`, `end` or a tick
short_good : (n : ℕ) (word : List ℕ) → n < 2 ^ 48
    → is_malformed (spelling.reading_at (Some n) (call_of (words_of word))) ≡ false
    → length word ≤ 8 → list_all (λ b. not (b == 10)) word ≡ true → IsGood (behind_moment n word)
short_good n word below good short whole = one_good n word (rw (reading_is n word below) good)
    (word_fits n word below short) (word_whole word whole)

good_by : Keeps (λ given n. All IsGood (lines_given given))
good_by h n _ (takes line later is on fit c spelled other) le below g =
    let good = (spells n (without_keys line) below _ refl (rw spelled refl)).1 in
    let whole = All-head (All NotLf) line later (rw is at (left_no_lf h)) in
    All-cons IsGood _ _ (one_good n (without_keys line) good (keys_short n line fit)
    (keys_whole NotLf line whole)) g
good_by h n _ (darkens line later is on) le below g =
    All-cons IsGood _ _ (short_good n (codes "master 0") below refl (omega arith) refl) g
good_by h n _ (dims on owed) le below g =
    All-cons IsGood _ _ (short_good n (codes "master 0") below refl (omega arith) refl) g
good_by h n _ (leaves line later is on) le below g =
    All-cons IsGood _ _ (short_good n (codes "end") below refl (omega arith) refl) g
good_by h n _ (closes dark) le below g =
    All-cons IsGood _ _ (short_good n (codes "end") below refl (omega arith) refl) g
good_by h n _ (ticks on light late) le below g =
    All-cons IsGood _ _ (short_good n (codes "tick") below refl (omega arith) refl) g
good_by h n _ _ le below g = g

-- ---- the lines of the text

line_first : (line rest : List ℕ) → All NotLf line
    → lines_of (line ++ 10 ∷ rest) ≡ line ∷ lines_of rest
line_first [] rest h = refl
line_first (b ∷ line) rest h =
    rw (All-head NotLf b line h, line_first line rest (All-tail NotLf b line h)) refl

lines_of-text : (lines : List (List ℕ)) → All IsGood lines
    → lines_of (flat_map (λ line. line ++ 10 ∷ []) lines) ≡ lines
lines_of-text [] g = refl
lines_of-text (line ∷ lines) g =
    let rest : List ℕ = flat_map (λ line. line ++ 10 ∷ []) lines in
    let first = line_first line rest (All-head IsGood line lines g).whole in
    rw (append_assoc, first, lines_of-text lines (All-tail IsGood line lines g)) refl

all_reverse : (lines : List (List ℕ)) → All IsGood lines → All IsGood (reverse lines)
all_reverse lines g = λ i d inside. grind (arith, moves, elements)

all_good : (h : List Happening) → All IsGood (reverse (lines_given (answers h)))
all_good h = all_reverse (lines_given (answers h)) (through
    (λ given n. All IsGood (lines_given given)) (All-nil IsGood) good_by h)

pub lines_fine : (h : List Happening) → PlayTakes (lines_of (lines_text (lines_given (answers h))))
lines_fine h =
    let lines : List (List ℕ) = reverse (lines_given (answers h)) in
    let good = all_good h in
    rw (lines_of-text lines good) (record {
      none_malformed = All-weaker IsGood (λ (l : List ℕ). is_malformed (reading_of l) ≡ false)
          (λ l g. g.good) lines good;
      none_long = All-weaker IsGood (λ (l : List ℕ). length l ≤ 200) (λ l g. g.short) lines good;
    })
