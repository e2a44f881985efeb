-- What a step fader keeps besides.
-- Of use inside the crate: what its public calls answer is said without these.
use Rattle.std.specs.Prelude.{◌≡◌, ◌≢◌, ℕ, ◌+◌, ◌<◌, ◌≤◌, List, length, slice_index}
use Rattle.fade_core.specs.Fading.{Fading, level_at}

-- the channel at this place is not among the first so many of the list
abbrev pub IsUnlisted : List ℕ → ℕ → ℕ → Type 0
IsUnlisted moving count place = (m : ℕ) → m < count → slice_index moving m ≢ place + 1

-- the first so many of the list are channels, of so many
abbrev pub AreChannels : List ℕ → ℕ → ℕ → Type 0
AreChannels moving count channels = (m : ℕ) → m < count
    → (1 ≤ slice_index moving m) × (slice_index moving m ≤ channels)

-- each channel's level now is at hand, and each channel that is not among the first so many of the
-- list stays there
pub record LevelsStand (f : Fading) (levels moving : List ℕ) (count : ℕ) : Type 0 where
  pub levels_length : length levels ≡ length f.from
  pub moving_length : length moving ≡ length f.from
  pub count_in : count ≤ length f.from
  pub listed : AreChannels moving count (length f.from)
  pub levels_are : (place : ℕ) → place < length f.from
      → slice_index levels place ≡ level_at f place f.latest
  pub others_stay : (place : ℕ) → place < length f.from → IsUnlisted moving count place
      → (moment : ℕ) → f.latest ≤ moment → level_at f place moment ≡ level_at f place f.latest
