-- Playback level: what the level of one channel is, as cues start and time passes.
use Rattle.std.specs.Prelude.{ℕ, ◌+◌, ◌-◌, ◌*◌, ◌/◌, ◌≤◌, ◌⊎◌, List, [], ◌∷◌}
use Rattle.std.specs.Prelude.{nat_le, nat_lt, if◌then◌else◌, unwrap_or}
use Rattle.std.specs.Ordering.{nat_cmp}
use Rattle.std.specs.FinMap.{find}
use Rattle.show_core.specs.declared.rate.Rate.{Rate}

-- a level that goes from a to b at a rate, this long after the start: b once the delay and the time
-- are over, a until the delay is over, and between them a moved towards b by the whole part of its
-- share
abbrev pub fade : ℕ → ℕ → Rate → ℕ → ℕ
fade a b rate elapsed =
    if nat_le (rate.delay + rate.time) elapsed then b
    else (if nat_le elapsed rate.delay then a
    else (if nat_lt a b then a + (b - a) * (elapsed - rate.delay) / rate.time
    else a - (a - b) * (elapsed - rate.delay) / rate.time))

-- a rising level goes at the rate for rising ones, any other at the rate for falling ones
unfoldable pub split_fade : ℕ → ℕ → Rate → Rate → ℕ → ℕ
split_fade a b up down = fade a b (if nat_lt a b then up else down)

-- the start of a fade: the look that it aims at, the two rates, and its moment
pub record Start : Type 0 where
  pub look : List (ℕ × ℕ)
  pub up : Rate
  pub down : Rate
  pub moment : ℕ

-- the byte of a channel in a look; 0 where the look does not list it
abbrev pub byte_of : List (ℕ × ℕ) → ℕ → ℕ
byte_of look channel = unwrap_or (find nat_cmp channel look) 0

-- the level of a channel at a moment after these starts, the newest first
abbrev pub level_after : List Start → ℕ → ℕ → ℕ
level_after [] channel moment = 0
level_after (s ∷ older) channel moment =
    split_fade (level_after older channel s.moment) (255 * byte_of s.look channel) s.up s.down
    (moment - s.moment)

-- where a channel goes after these starts
abbrev pub target_after : List Start → ℕ → ℕ
target_after [] channel = 0
target_after (s ∷ older) channel = 255 * byte_of s.look channel

-- from x towards b comes y: y is between them
abbrev pub IsTowards : ℕ → ℕ → ℕ → Type 0
IsTowards x b y = ((x ≤ y) × (y ≤ b)) ⊎ ((b ≤ y) × (y ≤ x))
