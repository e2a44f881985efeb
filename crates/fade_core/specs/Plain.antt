-- What a plain fader keeps: the fade that each channel is in.
-- Of use inside the crate: what its public calls answer is said without these.
use Rattle.std.specs.Prelude.{◌≡◌, ℕ, ◌+◌, ◌-◌, ◌^◌, ◌<◌, ◌≤◌, List, All, length, slice_index_or}
use Rattle.fade_core.specs.declared.channel_fade.ChannelFade.{ChannelFade}
use Rattle.fade_core.specs.declared.plain.PlainFader.TheInside.{Inside}
use Rattle.fade_core.specs.Level.{Start, fade, level_after}

-- the fade of each channel, channel 1 first, and the latest moment
pub record PlainFading : Type 0 where
  pub fades : List ChannelFade
  pub latest : ℕ

-- the list in place of the vector
abbrev pub plain_view : Inside → PlainFading
plain_view f = record { fades = f.fades.items; latest = f.latest }

-- the level that a fade makes at a moment
abbrev pub level_in : ChannelFade → ℕ → ℕ
level_in f moment = fade f.start f.target f.rate (moment - f.began)

-- from now on, each channel is at what these starts make
abbrev pub Makes : PlainFading → List Start → Type 0
Makes p starts = (channel moment : ℕ) (none : ChannelFade) → 1 ≤ channel
    → channel ≤ length p.fades → p.latest ≤ moment
    → level_in (slice_index_or p.fades (channel - 1) none) moment ≡ level_after starts channel moment

-- it has begun by a moment, between levels
pub record IsUnderway (moment : ℕ) (f : ChannelFade) : Type 0 where
  pub start_full : f.start ≤ 65025
  pub target_full : f.target ≤ 65025
  pub begun : f.began ≤ moment

-- each channel's fade has begun
pub record IsPlainFading (p : PlainFading) : Type 0 where
  pub few : length p.fades < 2 ^ 16
  pub underway : All (IsUnderway p.latest) p.fades
