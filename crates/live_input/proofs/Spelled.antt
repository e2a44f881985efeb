-- Numbers in a text, and words behind a moment.
use Rattle.live_input.proofs.Terms.{◌≡◌, ◌<◌, ◌^◌, ℕ, zero, suc, ◌+◌, ◌/◌, ◌%◌, Bool, true, false}
use Rattle.live_input.proofs.Terms.{refl, ap, arith, rules, List, [], ◌∷◌, ◌++◌, length}
use Rattle.live_input.proofs.Terms.{append_assoc, Some, None, one-add, ◌==◌, codes, decimal}
use Rattle.live_input.proofs.Terms.{option_map, All, is_ascii_digit, to_ascii_lowercase}
use Rattle.live_input.proofs.Terms.{digit_glyph, digits, digits_onto, list_all, position_or_len}
use Rattle.live_input.proofs.Terms.{digits_value, take-append-add, agree_below, agree_below_at}
use Rattle.live_input.proofs.Terms.{cond_both, nat_tests, decimal_nonempty, digits_decimal}
use Rattle.live_input.proofs.Terms.{digits_value-decimal, length-decimal-le, All-cons, All-head}
use Rattle.live_input.proofs.Terms.{All-nil, All-tail, slice_split_at, bytes_eq-Decides}
use Rattle.live_input.proofs.Terms.{IsNumeralModel, numerals_by_value, moment_of, same_word}
use Rattle.live_input.proofs.Terms.{is_bang, is_separator, is_word, words_of, Instruction, call_of}
use Rattle.live_input.proofs.Terms.{instruction_of, instruction_with, reading_of, behind_moment}
use Rattle.std.specs.Prelude.{map}
use Rattle.console.specs.declared.call.Call.TheVariants.{Order}
use Rattle.console.specs.Spelling as spelling

-- ---- the digits of a number

-- a byte fails a test
abbrev pub Fails : (ℕ → Bool) → ℕ → Type 0
Fails test b = test b ≡ false

onto_digits : (test : ℕ → Bool) → ((d : ℕ) → d < 10 → test (digit_glyph false d) ≡ false)
    → (k n : ℕ) (acc : List ℕ) → All (Fails test) acc
    → All (Fails test) (digits_onto k 10 false n acc)
onto_digits test fails zero n acc h = h
onto_digits test fails (suc k) n acc h =
    let more = All-cons (Fails test) _ acc (fails (n % 10) (omega arith)) h in
    cond_both (n / 10 == 0) _ _ (All (Fails test)) (λ e. more)
    (λ e. onto_digits test fails k (n / 10) _ more)

-- what no digit passes no byte of a number passes
pub no_digit : (test : ℕ → Bool)
    → agree_below (λ d. test (digit_glyph false d)) (λ d. false) 10 ≡ true → (n : ℕ)
    → All (Fails test) (decimal n)
unfolding digits
no_digit test none n = onto_digits test
    (λ d. agree_below_at (λ d. test (digit_glyph false d)) (λ d. false) 10 d none) 64 n []
    (All-nil (Fails test))

-- the first byte that passes stands behind those that fail
pub passed : (test : ℕ → Bool) (ds rest : List ℕ) → All (Fails test) ds
    → position_or_len test (ds ++ rest) ≡ length ds + position_or_len test rest
passed test [] rest h = omega arith
passed test (d ∷ ds) rest h = rw (All-head (Fails test) d ds h)
    (omega (arith, passed test ds rest (All-tail (Fails test) d ds h)))

-- ---- words behind a moment

-- the words of a line are those before its comment
words_behind : (n : ℕ) (line : List ℕ) → n < 2 ^ 48
    → words_of (behind_moment n line) ≡ decimal n ∷ words_of line
words_behind n line below =
    let some = decimal_nonempty n (omega arith) in
    let word : is_word (decimal n) ≡ true = grind (arith, some) in
    rw (
      append_assoc,
      passed is_bang (decimal n) (32 ∷ line) (no_digit is_bang refl n),
      take-append-add,
      one-add,
      slice_split_at is_separator (decimal n) 32 _ (no_digit is_separator refl n) refl,
      word,
    ) refl

own : IsNumeralModel (λ ds. list_all is_ascii_digit ds ≡ true) (digits_value 10)
own = numerals_by_value _ (search rules)

moment_is : (moment : ℕ) → moment < 2 ^ 48 → moment_of (decimal moment) ≡ Some moment
moment_is moment below =
    let some = decimal_nonempty moment (omega arith) in
    let short = length-decimal-le 15 moment (omega arith) (omega arith) (omega arith) in
    let digits = digits_decimal own moment (omega arith) in
    grind (arith, nat_tests, digits, digits_value-decimal own moment (omega arith))

-- words behind a moment are read with it
pub reading_is : (moment : ℕ) (line : List ℕ) → moment < 2 ^ 48
    → reading_of (behind_moment moment line)
    ≡ spelling.reading_at (Some moment) (call_of (words_of line))
reading_is moment line below = rw (words_behind moment line below, moment_is moment below) refl

-- ---- instructions

-- `tick` spells no instruction
not_tick : (keyword : List ℕ) (operands : List (List ℕ)) → same_word keyword (codes "tick") ≡ true
    → instruction_with keyword operands ≡ None
not_tick keyword (a ∷ b ∷ c ∷ d ∷ rest) h = refl
not_tick keyword _ h =
    rw ((bytes_eq-Decides (map to_ascii_lowercase keyword) (codes "tick")).0 h) refl

pub call_is : (words : List (List ℕ)) (instruction : Instruction)
    → instruction_of words ≡ Some instruction
    → call_of words ≡ Some (Order instruction)
call_is [] instruction h = cc
call_is (keyword ∷ operands) instruction h =
    cond_both (same_word keyword (codes "tick")) _ _ (λ call. call ≡ Some (Order instruction))
    (λ e. let none = not_tick keyword operands e in cc)
    (λ e. ap (option_map (λ c. Order c)) h)
