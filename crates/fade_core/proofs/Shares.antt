-- Shares of a way: how a division makes one, and that they move channels as fades do.
use Rattle.std.proofs.Common.{◌≡◌, ℕ, ◌+◌, ◌-◌, ◌*◌, ◌/◌, ◌%◌, ◌^◌, ◌<◌, ◌≤◌}
use Rattle.std.proofs.Common.{ap, refl, arith, lit<, Bool, true, false}
use Rattle.std.specs.Prelude.{nat_le, nat_lt, if◌then◌else◌}
use Rattle.std.proofs.Math.Nat.{mul-div_left, mul-le-mul_left}
use Rattle.std.proofs.lemmas.Nat.{le-div, div_below, div-add-mod', mod_below, mul-lt}
use Rattle.std.proofs.lemmas.Bool.Decides.{nat_tests}
use Rattle.show_core.specs.declared.rate.Rate.{Rate}
use Rattle.fade_core.specs.Level.{split_fade}
use Rattle.fade_core.specs.Share.{way_gone, level_between, IsShareOf}

-- a quotient from its bounds
between : (n k q : ℕ) → 0 < k → q * k ≤ n → n < (q + 1) * k → n / k ≡ q
between n k q pos low high = omega (arith, le-div q n k pos low, div_below n k (q + 1) pos high)

-- what fits t times between fits once
cancelled : (x y t : ℕ) → 0 < t → x * t ≤ y * t → x ≤ y
cancelled x y t pos le = omega (arith, le-div x (y * t) t pos le, mul-div_left y {n = t} pos)

cancelled_lt : (x y t : ℕ) → 0 < t → x * t < y * t → x < y
cancelled_lt x y t pos lt = omega (arith, div_below (x * t) t y pos lt, mul-div_left x {n = t} pos)

-- n of t parts, as p-ths: rounded up by less than the way allows, f scales it exactly
pub share_exact : (w n t f p more : ℕ) → 0 < t → 0 < p
    → n * p < f * t → f * t ≤ n * p + more → w * more < p → w * f / p ≡ w * n / t
share_exact w n t f p more pos pos_p low high small =
    let q : ℕ = w * n / t in
    let r : ℕ = w * n % t in
    let split : q * t + r ≡ w * n = div-add-mod' (w * n) t in
    let rest : r < t = mod_below (w * n) t pos in
    let le : n * p ≤ f * t = omega arith in
    let least : w * (n * p) ≤ w * (f * t) = mul-le-mul_left w le in
    let most : w * (f * t) ≤ w * (n * p + more) = mul-le-mul_left w high in
    let scaled : (q * t + r) * p ≡ w * n * p = ap (λ m. m * p) split in
    let room : (r + 1) * p ≤ t * p = omega (arith, mul-le-mul_left p (next r t rest)) in
    let above : q * p * t ≤ w * f * t = omega arith in
    let below : w * f * t < (q + 1) * p * t = omega arith in
    between (w * f) p q pos_p (cancelled (q * p) (w * f) t pos above)
    (cancelled_lt (w * f) ((q + 1) * p) t pos below) where
      next : (r t : ℕ) → r < t → r + 1 ≤ t
      next r t lt = omega arith

-- one division is enough for a short time
pub short_fraction : (w n t : ℕ) → 0 < t → t < 2 ^ 16 → w < 2 ^ 16
    → w * ((n * 2 ^ 32 / t + 1) * 2 ^ 16) / 2 ^ 48 ≡ w * n / t
short_fraction w n t pos short way =
    let u : ℕ = n * 2 ^ 32 / t in
    let r : ℕ = n * 2 ^ 32 % t in
    let split : u * t + r ≡ n * 2 ^ 32 = div-add-mod' (n * 2 ^ 32) t in
    let rest : r < t = mod_below (n * 2 ^ 32) t pos in
    let size : (u + 1) * 2 ^ 16 * t ≡ (u * t + t) * 2 ^ 16 = omega arith in
    let small : w * t < 2 ^ 16 * 2 ^ 16 = mul-lt w t (2 ^ 16) (2 ^ 16) way short in
    let room : w * (t * 2 ^ 16) ≡ w * t * 2 ^ 16 = omega arith in
    share_exact w n t ((u + 1) * 2 ^ 16) (2 ^ 48) (t * 2 ^ 16) pos (lit< tt)
    (omega arith) (omega arith) (omega arith)

-- a second one has the next places
long_fraction_range : (n t : ℕ) → 0 < t
    → let f : ℕ = n * 2 ^ 32 / t * 2 ^ 16 + n * 2 ^ 32 % t * 2 ^ 16 / t + 1 in
    (n * 2 ^ 48 < f * t) × (f * t ≤ n * 2 ^ 48 + t)
long_fraction_range n t pos =
    let u : ℕ = n * 2 ^ 32 / t in
    let r : ℕ = n * 2 ^ 32 % t in
    let l : ℕ = r * 2 ^ 16 / t in
    let s : ℕ = r * 2 ^ 16 % t in
    let first : u * t + r ≡ n * 2 ^ 32 = div-add-mod' (n * 2 ^ 32) t in
    let second : l * t + s ≡ r * 2 ^ 16 = div-add-mod' (r * 2 ^ 16) t in
    let rest : s < t = mod_below (r * 2 ^ 16) t pos in
    let size : (u * 2 ^ 16 + l + 1) * t ≡ u * t * 2 ^ 16 + l * t + t = omega arith in
    (omega arith, omega arith)

pub long_fraction : (w n t : ℕ) → 0 < t → t < 2 ^ 32 → w < 2 ^ 16
    → w * (n * 2 ^ 32 / t * 2 ^ 16 + n * 2 ^ 32 % t * 2 ^ 16 / t + 1) / 2 ^ 48 ≡ w * n / t
long_fraction w n t pos long way =
    let f : ℕ = n * 2 ^ 32 / t * 2 ^ 16 + n * 2 ^ 32 % t * 2 ^ 16 / t + 1 in
    let range : (n * 2 ^ 48 < f * t) × (f * t ≤ n * 2 ^ 48 + t) = long_fraction_range n t pos in
    share_exact w n t f (2 ^ 48) t pos (lit< tt) range.0 range.1
    (mul-lt w t (2 ^ 16) (2 ^ 32) way long)

-- a part of a time is less than the whole
pub long_fraction_below : (n t : ℕ) → n < t → t < 2 ^ 32
    → n * 2 ^ 32 / t * 2 ^ 16 + n * 2 ^ 32 % t * 2 ^ 16 / t + 1 < 2 ^ 48
long_fraction_below n t lt long =
    let f : ℕ = n * 2 ^ 32 / t * 2 ^ 16 + n * 2 ^ 32 % t * 2 ^ 16 / t + 1 in
    let range : (n * 2 ^ 48 < f * t) × (f * t ≤ n * 2 ^ 48 + t) =
    long_fraction_range n t (omega arith) in
    let most : (n + 1) * 2 ^ 48 ≤ t * 2 ^ 48 = omega arith in
    cancelled_lt f (2 ^ 48) t (omega arith) (omega arith)

-- what rises, from what it has gone
rises : (p q : Bool) (a b x : ℕ) → a < b
    → a + (if p then b - a else (if q then 0 else x)) ≡ (if p then b else (if q then a else a + x))
rises true q a b x lt = omega arith
rises false true a b x lt = omega arith
rises false false a b x lt = refl

falls : (p q : Bool) (a b x : ℕ) → b ≤ a
    → a - (if p then a - b else (if q then 0 else x)) ≡ (if p then b else (if q then a else a - x))
falls true q a b x le = omega arith
falls false true a b x le = omega arith
falls false false a b x le = refl

-- shares of both ways move a channel as its fade does
pub moved_split_fade : (a b : ℕ) (up down : Rate) (elapsed rising falling : ℕ)
    → a < 2 ^ 16 → b < 2 ^ 16 → IsShareOf up elapsed rising → IsShareOf down elapsed falling
    → level_between a b rising falling ≡ split_fade a b up down elapsed
unfolding split_fade level_between way_gone
moved_split_fade a b up down elapsed rising falling small_a small_b is_up is_down =
    go (nat_lt a b) refl where
      go : (r : Bool) → nat_lt a b ≡ r
          → level_between a b rising falling ≡ split_fade a b up down elapsed
      go true is =
          let lt : a < b = grind (arith, nat_tests) in
          rw (is, is_up.exact (b - a) (omega arith))
          (rises (nat_le (up.delay + up.time) elapsed) (nat_le elapsed up.delay) a b
          ((b - a) * (elapsed - up.delay) / up.time) lt)
      go false is =
          let le : b ≤ a = grind (arith, nat_tests) in
          rw (is, is_down.exact (a - b) (omega arith))
          (falls (nat_le (down.delay + down.time) elapsed) (nat_le elapsed down.delay) a b
          ((a - b) * (elapsed - down.delay) / down.time) le)

-- a channel that is where it goes stays there
pub moved_still : (b rising falling : ℕ) → level_between b b rising falling ≡ b
unfolding level_between
moved_still b rising falling =
    let is : nat_lt b b ≡ false = grind (arith, nat_tests) in
    let none : b - b ≡ 0 = omega arith in
    rw (is, none) (omega arith)
