-- How large the numbers that words spell can be.
use Rattle.show_line.proofs.Terms.{◌≡◌, ℕ, suc, zero, ◌+◌, ◌*◌, ◌/◌, ◌^◌, ◌<◌, ◌≤◌, Bool, true}
use Rattle.show_line.proofs.Terms.{false, List, [], ◌∷◌, length, IsTrue, refl, subst, arith, rules}
use Rattle.show_line.proofs.Terms.{Option, Some, None, nat_le, ◌&&◌, ◌==◌, IfSome, option_map}
use Rattle.show_line.proofs.Terms.{option_and_then, if◌then◌else◌, list_all, list_any, before_first}
use Rattle.show_line.proofs.Terms.{after_first, is_ascii_digit, digits_value, mul-le-mul_right}
use Rattle.show_line.proofs.Terms.{nat_tests, IsNumeralModel, numerals_by_value, digits_value_short}
use Rattle.show_line.proofs.Terms.{is_run, digits_of, whole_of, is_point, is_colon, units_of}
use Rattle.show_line.proofs.Terms.{fraction_of, sum_of, scaled_of, cue_number_of, seconds_of}
use Rattle.show_line.proofs.Terms.{time_of, is_cue_number, is_time}

-- the number, if there is one, is at most this
abbrev IsUpTo : ℕ → Option ℕ → Type 0
IsUpTo most o = IfSome o (λ n. n ≤ most)

IsUpTo-le : (m n : ℕ) (o : Option ℕ) → IsUpTo m o → m ≤ n → IsUpTo n o
IsUpTo-le m n None h le = tt
IsUpTo-le m n (Some k) h le = omega arith

IsUpTo-if : (most : ℕ) (b : Bool) (x y : Option ℕ) → IsUpTo most x → IsUpTo most y
    → IsUpTo most (if b then x else y)
IsUpTo-if most true x y h g = h
IsUpTo-if most false x y h g = g

IsUpTo-sum_of : (m n most : ℕ) (a b : Option ℕ) → IsUpTo m a → IsUpTo n b → m + n ≤ most
    → IsUpTo most (sum_of a b)
IsUpTo-sum_of m n most None b h g le = tt
IsUpTo-sum_of m n most (Some x) None h g le = tt
IsUpTo-sum_of m n most (Some x) (Some y) h g le = omega arith

IsUpTo-option_map : (f : ℕ → ℕ) (most v : ℕ) (b : Bool) → (b ≡ true → f v ≤ most)
    → IsUpTo most (option_map f (if b then Some v else None))
IsUpTo-option_map f most v true h = h refl
IsUpTo-option_map f most v false h = tt

both : (a b : Bool) → (a && b) ≡ true → (a ≡ true) × (b ≡ true)
both true b h = (refl, h)
both false b h = cc

le_from_test : (n most : ℕ) → nat_le n most ≡ true → n ≤ most
le_from_test n most h = grind (arith, nat_tests)

own : IsNumeralModel (λ ds. list_all is_ascii_digit ds ≡ true) (digits_value 10)
own = numerals_by_value _ (search rules)

run_is : (most : ℕ) (word : List ℕ) → is_run is_ascii_digit 1 most word ≡ true
    → (1 ≤ length word) × (length word ≤ most) × (digits_value 10 word < 10 ^ length word)
run_is most word h =
    let a = both (nat_le 1 (length word) && nat_le (length word) most)
    (list_all is_ascii_digit word) h in
    let b = both (nat_le 1 (length word)) (nat_le (length word) most) a.0 in
    let value = digits_value_short own word (length word) a.1 (omega arith) in
    (le_from_test 1 (length word) b.0, le_from_test (length word) most b.1, value)

-- thousandths of as many digits as this
abbrev thousandths : ℕ → ℕ → ℕ
thousandths l d = d * 1000 / 10 ^ l

two_places : (l d : ℕ) → 1 ≤ l → l ≤ 2 → d < 10 ^ l → thousandths l d ≤ 990
two_places zero d a b h = absurd (omega arith)
two_places (suc zero) d a b h = omega arith
two_places (suc (suc zero)) d a b h = omega arith
two_places (suc (suc (suc l))) d a b h = absurd (omega arith)

three_places : (l d : ℕ) → 1 ≤ l → l ≤ 3 → d < 10 ^ l → thousandths l d ≤ 999
three_places zero d a b h = absurd (omega arith)
three_places (suc zero) d a b h = omega arith
three_places (suc (suc zero)) d a b h = omega arith
three_places (suc (suc (suc zero))) d a b h = omega arith
three_places (suc (suc (suc (suc l)))) d a b h = absurd (omega arith)

IsUpTo-whole_of : (max scale : ℕ) (word : List ℕ)
    → IsUpTo (max * scale) (option_map (λ n. n * scale) (whole_of max word))
IsUpTo-whole_of max scale word = of_number (digits_of 9 word)
  where
    of_number : (o : Option ℕ) → IsUpTo (max * scale)
        (option_map (λ n. n * scale)
        (option_and_then (λ n. if nat_le n max then Some n else None) o))
    of_number None = tt
    of_number (Some n) =
        IsUpTo-option_map (λ n. n * scale) (max * scale) n (nat_le n max)
        (λ e. mul-le-mul_right scale (le_from_test n max e))

IsUpTo-units_of : (max : ℕ) (word : List ℕ) → IsUpTo (max * 1000) (units_of max word)
IsUpTo-units_of max [] = omega arith
IsUpTo-units_of max (b ∷ bs) = IsUpTo-whole_of max 1000 (b ∷ bs)

module _
    (places most : ℕ)
    (small : (l d : ℕ) → 1 ≤ l → l ≤ places → d < 10 ^ l → thousandths l d ≤ most) where
  IsUpTo-fraction_of : (word : List ℕ) → IsUpTo most (fraction_of places word)
  IsUpTo-fraction_of word =
      let l = length word in
      let d = digits_value 10 word in
      IsUpTo-option_map (thousandths l) most d (is_run is_ascii_digit 1 places word)
      (λ e. let r = run_is places word e in small l d r.0 r.1 r.2)

  IsUpTo-scaled_of : (max : ℕ) (word : List ℕ) → IsUpTo (max * 1000 + most)
      (scaled_of max places word)
  IsUpTo-scaled_of max word =
      let before = before_first is_point word in
      let after = after_first is_point word in
      IsUpTo-if (max * 1000 + most) (list_any is_point word) _ _
      (IsUpTo-sum_of (max * 1000) most (max * 1000 + most) (units_of max before)
      (fraction_of places after)
      (IsUpTo-units_of max before) (IsUpTo-fraction_of after) (omega arith))
      (IsUpTo-le (max * 1000) (max * 1000 + most) _ (IsUpTo-whole_of max 1000 word) (omega arith))

IsUpTo-seconds_of : (word : List ℕ) → IsUpTo 59990 (seconds_of word)
IsUpTo-seconds_of word =
    let digits = length (before_first is_point word) in
    IsUpTo-if 59990 (nat_le 1 digits && nat_le digits 2) (scaled_of 59 2 word) None
    (IsUpTo-scaled_of 2 990 two_places 59 word) tt

IsUpTo-time_of : (word : List ℕ) → IsUpTo 5999990 (time_of word)
IsUpTo-time_of word =
    let before = before_first is_colon word in
    let after = after_first is_colon word in
    IsUpTo-if 5999990 (list_any is_colon word) _ _
    (IsUpTo-sum_of 5940000 59990 5999990 (option_map (λ m. m * 60000) (whole_of 99 before))
    (seconds_of after)
    (IsUpTo-whole_of 99 60000 before) (IsUpTo-seconds_of after) (omega arith))
    (IsUpTo-scaled_of 2 990 two_places 5999 word)

-- what is spelt as a time is one
pub time_small : (word : List ℕ) (t : ℕ) → time_of word ≡ Some t → IsTrue (is_time t)
time_small word t h =
    let le : t ≤ 5999990 = subst (IsUpTo 5999990) h (IsUpTo-time_of word) in
    grind (arith, nat_tests)

not_zero : (k n : ℕ) → k ≤ 9999999 → (if k == 0 then None else Some k) ≡ Some n
    → IsTrue (is_cue_number n)
not_zero k n le e = grind (arith, nat_tests)

-- what is spelt as a cue number is one
pub cue_number_small : (word : List ℕ) (n : ℕ) → cue_number_of word ≡ Some n
    → IsTrue (is_cue_number n)
cue_number_small word n h = of_scaled (scaled_of 9999 3 word)
    (IsUpTo-scaled_of 3 999 three_places 9999 word) h
  where
    of_scaled : (o : Option ℕ) → IsUpTo 9999999 o
        → option_and_then (λ k. if k == 0 then None else Some k) o ≡ Some n
        → IsTrue (is_cue_number n)
    of_scaled None le e = cc
    of_scaled (Some k) le e = not_zero k n le e
