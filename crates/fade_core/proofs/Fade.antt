-- A fade never turns back, keeps between its ends, and stays where it need not go or has gone.
use Rattle.std.proofs.Common.{◌≡◌, ℕ, ◌+◌, ◌-◌, ◌*◌, ◌/◌, ◌<◌, ◌≤◌, ◌⊎◌, inl, inr}
use Rattle.std.proofs.Common.{Bool, true, false, List, [], ◌∷◌, refl, arith, replicate, get_or}
use Rattle.std.specs.Prelude.{nat_le, nat_lt, if◌then◌else◌}
use Rattle.std.proofs.Math.Nat.{div-zero, div-mul-le_self, div-le_of_le-mul, mul-le-mul_left}
use Rattle.std.proofs.lemmas.Nat.{le-div}
use Rattle.std.proofs.lemmas.Bool.{cases_lt}
use Rattle.std.proofs.lemmas.Bool.Decides.{nat_tests}
use Rattle.std.proofs.lemmas.List.{get_or-replicate}
use Rattle.show_core.specs.declared.rate.Rate.{Rate}
use Rattle.fade_core.specs.Level.{Start, split_fade, level_after, target_after, byte_of, IsTowards}

div_mono : (m n t : ℕ) → m ≤ n → m / t ≤ n / t
div_mono m n t le = go t (cases_lt 0 t) where
  go : (t : ℕ) → (0 < t) ⊎ (t ≤ 0) → m / t ≤ n / t
  go t (inl pos) = le-div (m / t) n t pos (omega (arith, div-mul-le_self m t))
  go t (inr none) = let e : t ≡ 0 = omega arith in rw (e, div-zero m, div-zero n) (omega arith)

-- the share of a distance grows with the time
share_mono : (d x y t : ℕ) → x ≤ y → d * x / t ≤ d * y / t
share_mono d x y t le = div_mono (d * x) (d * y) t (mul-le-mul_left d le)

-- and is no more than the distance
share_le : (d x t : ℕ) → x ≤ t → d * x / t ≤ d
share_le d x t le = div-le_of_le-mul t (omega (arith, mul-le-mul_left d le))

rising : (a b w t x y : ℕ) → a < b → x ≤ y
    → let at : ℕ → ℕ = λ e. (if nat_le (w + t) e then b
    else (if nat_le e w then a else a + (b - a) * (e - w) / t)) in
    (at x ≤ at y) × (at y ≤ b)
rising a b w t x y lt le =
    let more = share_mono (b - a) (x - w) (y - w) t (omega arith) in
    let x_part : x - w ≤ t → (b - a) * (x - w) / t ≤ b - a = share_le (b - a) (x - w) t in
    let y_part : y - w ≤ t → (b - a) * (y - w) / t ≤ b - a = share_le (b - a) (y - w) t in
    (grind (arith, nat_tests), grind (arith, nat_tests))

falling : (a b w t x y : ℕ) → b ≤ a → x ≤ y
    → let at : ℕ → ℕ = λ e. (if nat_le (w + t) e then b
    else (if nat_le e w then a else a - (a - b) * (e - w) / t)) in
    (b ≤ at y) × (at y ≤ at x)
falling a b w t x y le_b le =
    let more = share_mono (a - b) (x - w) (y - w) t (omega arith) in
    let x_part : x - w ≤ t → (a - b) * (x - w) / t ≤ a - b = share_le (a - b) (x - w) t in
    let y_part : y - w ≤ t → (a - b) * (y - w) / t ≤ a - b = share_le (a - b) (y - w) t in
    (grind (arith, nat_tests), grind (arith, nat_tests))

-- as time passes, a channel goes towards b
pub split_fade_towards : (a b : ℕ) (up down : Rate) (x y : ℕ) → x ≤ y
    → IsTowards (split_fade a b up down x) b (split_fade a b up down y)
unfolding split_fade
split_fade_towards a b up down x y le = go (nat_lt a b) refl where
  go : (r : Bool) → nat_lt a b ≡ r
      → IsTowards (split_fade a b up down x) b (split_fade a b up down y)
  go true is = rw is (inl (rising a b up.delay up.time x y (grind (arith, nat_tests)) le))
  go false is = rw is (inr (falling a b down.delay down.time x y (grind (arith, nat_tests)) le))

pub level_after_towards : (starts : List Start) (channel x y : ℕ) → x ≤ y
    → IsTowards (level_after starts channel x) (target_after starts channel)
    (level_after starts channel y)
level_after_towards [] channel x y le = inl (omega arith, omega arith)
level_after_towards (s ∷ older) channel x y le =
    split_fade_towards (level_after older channel s.moment) (255 * byte_of s.look channel)
    s.up s.down (x - s.moment) (y - s.moment) (omega arith)

stay : (p q : Bool) (b w t e : ℕ)
    → (if p then b else (if q then b else b - (b - b) * (e - w) / t)) ≡ b
stay true q b w t e = refl
stay false true b w t e = refl
stay false false b w t e = let none : b - b ≡ 0 = omega arith in rw none (omega arith)

-- a channel that is where it goes stays there
pub split_fade_still : (b : ℕ) (up down : Rate) (e : ℕ) → split_fade b b up down e ≡ b
unfolding split_fade
split_fade_still b up down e =
    let is : nat_lt b b ≡ false = grind (arith, nat_tests) in
    rw is (stay (nat_le (down.delay + down.time) e) (nat_le e down.delay) b down.delay down.time e)

falls_below : (p q : Bool) (a b x top : ℕ) → a ≤ top → b ≤ top
    → (if p then b else (if q then a else a - x)) ≤ top
falls_below true q a b x top le_a le_b = le_b
falls_below false true a b x top le_a le_b = le_a
falls_below false false a b x top le_a le_b = omega arith

-- a level stays in the range of both ends
pub split_fade_full : (a b top : ℕ) (up down : Rate) (e : ℕ) → a ≤ top → b ≤ top
    → split_fade a b up down e ≤ top
unfolding split_fade
split_fade_full a b top up down e le_a le_b = go (nat_lt a b) refl where
  go : (r : Bool) → nat_lt a b ≡ r → split_fade a b up down e ≤ top
  go true is =
      let lt : a < b = grind (arith, nat_tests) in
      rw is (omega (arith, (rising a b up.delay up.time e e lt (omega arith)).1))
  go false is = rw is (falls_below (nat_le (down.delay + down.time) e) (nat_le e down.delay) a b
      ((a - b) * (e - down.delay) / down.time) top le_a le_b)

-- once both rates are over it is there
pub split_fade_over : (a b : ℕ) (up down : Rate) (e : ℕ)
    → up.delay + up.time ≤ e → down.delay + down.time ≤ e → split_fade a b up down e ≡ b
unfolding split_fade
split_fade_over a b up down e up_over down_over = go (nat_lt a b) refl where
  go : (r : Bool) → nat_lt a b ≡ r → split_fade a b up down e ≡ b
  go true is =
      let over : nat_le (up.delay + up.time) e ≡ true = grind (arith, nat_tests) in
      rw (is, over) refl
  go false is =
      let over : nat_le (down.delay + down.time) e ≡ true = grind (arith, nat_tests) in
      rw (is, over) refl

-- all levels are 0 where every channel is at 0 and aims at 0
pub split_fade_zeros : (from to : List ℕ) (n i : ℕ) (up down : Rate) (e : ℕ) → i < n
    → from ≡ replicate n 0 → to ≡ replicate n 0
    → split_fade (get_or from i 0) (get_or to i 0) up down e ≡ 0
split_fade_zeros from to n i up down e h p q =
    rw (p, q, get_or-replicate {A = ℕ} n i 0 0 h) (split_fade_still 0 up down e)
