-- How much of its way a channel has gone, as a number of 2 ^ 48ths.
-- Of use inside the crate: what its public calls answer is said without these.
use Rattle.std.specs.Prelude.{◌≡◌, ℕ, ◌+◌, ◌-◌, ◌*◌, ◌/◌, ◌^◌, ◌<◌, ◌≤◌}
use Rattle.std.specs.Prelude.{nat_le, nat_lt, if◌then◌else◌, List, EachIndex, slice_index}
use Rattle.show_core.specs.declared.rate.Rate.{Rate}

-- what a channel has gone of a way, so long after the start of a fade at this rate
unfoldable pub way_gone : Rate → ℕ → ℕ → ℕ
way_gone rate elapsed way =
    if nat_le (rate.delay + rate.time) elapsed then way
    else (if nat_le elapsed rate.delay then 0
    else way * (elapsed - rate.delay) / rate.time)

-- that share of each way is what is gone, and only that of a fade that is over is the whole
pub record IsShareOf (rate : Rate) (elapsed share : ℕ) : Type 0 where
  pub at_most_one : share ≤ 2 ^ 48
  pub exact : (way : ℕ) → way < 2 ^ 16 → way * share / 2 ^ 48 ≡ way_gone rate elapsed way
  pub over : share ≡ 2 ^ 48 → rate.delay + rate.time ≤ elapsed

-- the level of a channel from a to b, where those that rise have gone one share of their ways, and
-- the others another
unfoldable pub level_between : ℕ → ℕ → ℕ → ℕ → ℕ
level_between a b rising falling =
    if nat_lt a b then a + (b - a) * rising / 2 ^ 48
    else a - (a - b) * falling / 2 ^ 48

-- each channel is at the level that these shares make of its way
abbrev pub AreMoved : List ℕ → List ℕ → List ℕ → ℕ → ℕ → Type 0
AreMoved from to levels rising falling = EachIndex levels (λ place. slice_index levels place
    ≡ level_between (slice_index from place) (slice_index to place) rising falling)
