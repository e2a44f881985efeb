-- The patched dimmers by their channels, and the slots of frames by their dimmers.
-- Of use inside the crate: what its public calls answer is said without these.
use Rattle.std.specs.Prelude.{◌≡◌, ℕ, ◌+◌, ◌-◌, ◌<◌, ◌≤◌, List, length}
use Rattle.std.specs.Prelude.{slice_index, slice_index_or}
use Rattle.std.specs.List.{AllWithin}
use Rattle.std.specs.List.Sorted.{IsPermutation}

-- the dimmers of a list that are of this channel or of greater ones begin at a place
pub record IsBegin (by_channel : List (ℕ × (ℕ × ℕ))) (channel place : ℕ) : Type 0 where
  pub in_range : place ≤ length by_channel
  pub below : AllWithin (λ e. e.1.0 < channel) by_channel 0 place
  pub from_on : AllWithin (λ e. channel ≤ e.1.0) by_channel place (length by_channel)

-- the same dimmers, in the order of their channels; those of channel c lie from the place at c - 1
-- up to the place at c
pub record IsIndex (dimmers by_channel : List (ℕ × (ℕ × ℕ))) (begins : List ℕ) : Type 0 where
  pub same : IsPermutation dimmers by_channel
  pub each : length begins ≡ 4097
  pub places : (c : ℕ) → c < 4097 → IsBegin by_channel (c + 1) (slice_index begins c)

-- the dimmer, the channel and the byte at a place of a list of dimmers
abbrev pub dimmer_at : List (ℕ × (ℕ × ℕ)) → ℕ → ℕ
dimmer_at dimmers p = (slice_index_or dimmers p (0, (0, 0))).0

abbrev pub channel_at : List (ℕ × (ℕ × ℕ)) → ℕ → ℕ
channel_at dimmers p = (slice_index_or dimmers p (0, (0, 0))).1.0

abbrev pub byte_at : List (ℕ × (ℕ × ℕ)) → ℕ → ℕ
byte_at dimmers p = (slice_index_or dimmers p (0, (0, 0))).1.1

-- the slot of a dimmer where those of all ordinals stand in a row
abbrev pub slot_at : List ℕ → ℕ → ℕ
slot_at slots dimmer = slice_index slots (dimmer - 1)
