-- What a step fader keeps.
-- Of use inside the crate: what its public calls answer is said without these.
use Rattle.std.specs.Prelude.{◌≡◌, ℕ, ◌-◌, ◌^◌, ◌<◌, ◌≤◌, List, length, slice_index}
use Rattle.show_core.specs.Numbers.{AreLevels}
use Rattle.show_core.specs.declared.rate.Rate.{Rate}
use Rattle.fade_core.specs.Level.{Start, level_after, split_fade}

-- each channel's level at the last start and the one that it goes to, the rates, when it started,
-- and the latest moment
pub record Fading : Type 0 where
  pub from : List ℕ
  pub to : List ℕ
  pub up : Rate
  pub down : Rate
  pub began : ℕ
  pub latest : ℕ

-- the level of the channel at a place of these lists, at a moment, where nothing else starts
abbrev pub level_at : Fading → ℕ → ℕ → ℕ
level_at f place moment =
    split_fade (slice_index f.from place) (slice_index f.to place) f.up f.down (moment - f.began)

-- from now on, each channel is at what these starts make
abbrev pub Shows : Fading → List Start → Type 0
Shows f starts = (channel moment : ℕ) → 1 ≤ channel → channel ≤ length f.from → f.latest ≤ moment
    → level_at f (channel - 1) moment ≡ level_after starts channel moment

-- both lists have an entry for each channel, the levels are in their range, and the start is over
pub record IsFading (f : Fading) : Type 0 where
  pub same_length : length f.to ≡ length f.from
  pub few : length f.from < 2 ^ 16
  pub from_full : AreLevels f.from
  pub to_full : AreLevels f.to
  pub in_order : f.began ≤ f.latest
