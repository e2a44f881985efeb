-- A way multiplied by a share, digit by digit.
use Rattle.std.proofs.Common.{◌≡◌, ℕ, ◌+◌, ◌*◌, ◌/◌, ◌^◌, ap, ◌∙◌, arith, lit<}
use Rattle.std.proofs.Math.Nat.{add-mul-div_left}
use Rattle.std.proofs.lemmas.Nat.{shr-shr}

-- three digits of 16 bits, each with what the one below carries, scale as their number does
pub three_digits : (w low middle high : ℕ)
    → (w * high + (w * middle + w * low / 2 ^ 16) / 2 ^ 16) / 2 ^ 16
    ≡ w * (low + 2 ^ 16 * middle + 2 ^ 32 * high) / 2 ^ 48
three_digits w low middle high =
    let a : ℕ = w * low in
    let b : ℕ = w * middle in
    let c : ℕ = w * high in
    let one : b + a / 2 ^ 16 ≡ (a + 2 ^ 16 * b) / 2 ^ 16 =
    omega (arith, add-mul-div_left a b {y = 2 ^ 16} (lit< tt)) in
    let two : (b + a / 2 ^ 16) / 2 ^ 16 ≡ (a + 2 ^ 16 * b) / 2 ^ 32 =
    ap (λ n. n / 2 ^ 16) one ∙ shr-shr (a + 2 ^ 16 * b) 16 16 in
    let three : c + (a + 2 ^ 16 * b) / 2 ^ 32 ≡ (a + 2 ^ 16 * b + 2 ^ 32 * c) / 2 ^ 32 =
    omega (arith, add-mul-div_left (a + 2 ^ 16 * b) c {y = 2 ^ 32} (lit< tt)) in
    let whole : a + 2 ^ 16 * b + 2 ^ 32 * c ≡ w * (low + 2 ^ 16 * middle + 2 ^ 32 * high) =
    omega arith in
    ap (λ n. (c + n) / 2 ^ 16) two ∙ ap (λ n. n / 2 ^ 16) three
    ∙ shr-shr (a + 2 ^ 16 * b + 2 ^ 32 * c) 32 16 ∙ ap (λ n. n / 2 ^ 48) whole
