-- The digits of a number below 1,000.
use Rattle.std.proofs.Common.{◌≡◌, ℕ, ◌+◌, ◌/◌, ◌%◌, ◌<◌, ◌≤◌, [], ◌∷◌, ◌++◌, decimal, ap, ◌∙◌}
use Rattle.std.proofs.Common.{arith}
use Rattle.std.proofs.lemmas.Fmt.{decimal_digit}
use Rattle.itoa.proofs.Decimal.{decimal_pair, decimal_two}

pub one_digit : (n : ℕ) → n < 10 → decimal n ≡ (48 + n % 10) ∷ []
one_digit n below =
    decimal_digit n below ∙ ap (λ d. (48 + d) ∷ []) (omega (arith, below))

pub two_digits : (n : ℕ) → 10 ≤ n → n < 100
    → decimal n ≡ (48 + n / 10 % 10) ∷ (48 + n % 10) ∷ []
two_digits n from below =
    decimal_two n from below
    ∙ ap (λ d. (48 + d) ∷ (48 + n % 10) ∷ []) (omega (arith, below))

pub three_digits : (n : ℕ) → 100 ≤ n → n < 1000
    → decimal n ≡ (48 + n / 100) ∷ (48 + n / 10 % 10) ∷ (48 + n % 10) ∷ []
three_digits n from below =
    let high : n / 100 < 10 = omega (arith, below) in
    let tens : n % 100 / 10 ≡ n / 10 % 10 = omega arith in
    let ones : n % 100 % 10 ≡ n % 10 = omega arith in
    decimal_pair n from (omega (arith, below))
    ∙ ap (λ ds. ds ++ (48 + n % 100 / 10) ∷ (48 + n % 100 % 10) ∷ []) (decimal_digit (n / 100) high)
    ∙ ap (λ d. (48 + n / 100) ∷ (48 + d) ∷ (48 + n % 100 % 10) ∷ []) tens
    ∙ ap (λ d. (48 + n / 100) ∷ (48 + n / 10 % 10) ∷ (48 + d) ∷ []) ones
