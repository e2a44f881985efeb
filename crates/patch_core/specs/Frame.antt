-- What a patch makes of the levels of the channels: the frames of its universes.
use Rattle.std.specs.Prelude.{◌≡◌, ℕ, ◌+◌, ◌-◌, ◌*◌, ◌<◌, Bool, ◌&&◌, List, Some, map}
use Rattle.std.specs.Prelude.{slice_get, slice_index}
use Rattle.std.specs.List.{list_all, range_with_len}
use Rattle.std.specs.Option.{option_map_or}
use Rattle.std.specs.FinMap as maps
use Rattle.std.specs.Simd.{first_chunks}
use Rattle.show_core.specs.Numbers.{is_within}
use Rattle.show_core.specs.Readers.{slot_of, patch_ordinals}
use Rattle.show_core.specs.Tables.{PatchMap}

-- the number of the universe of ordinal 0, and the patch
pub record Rigging : Type 0 where
  pub base : ℕ
  pub patch : PatchMap

-- a universe number (E1.31, Universe): from 1 to 63999
abbrev pub is_universe : ℕ → Bool
is_universe = is_within 63999

-- the base is a universe number, and so is the base plus each ordinal with a patched dimmer
unfoldable pub is_base : PatchMap → ℕ → Bool
is_base patch base =
    is_universe base && list_all (λ ordinal. is_universe (base + ordinal)) (patch_ordinals patch)

-- the level of a channel in a list that begins with channel 1
abbrev pub listed_level : List ℕ → ℕ → ℕ
listed_level levels channel = slice_index levels (channel - 1)

-- the slot of a dimmer, from the level of each channel and the grand master; 0 where it is not
-- patched
abbrev pub dimmer_slot : PatchMap → (ℕ → ℕ) → ℕ → ℕ → ℕ
dimmer_slot patch level grand dimmer =
    option_map_or (λ p. slot_of (level p.0) grand p.1) (maps.get patch dimmer) 0

-- the frame of a universe: the slots of its 512 dimmers
abbrev pub frame_of : PatchMap → (ℕ → ℕ) → ℕ → ℕ → List ℕ
frame_of patch level grand ordinal =
    map (dimmer_slot patch level grand) (range_with_len (512 * ordinal + 1) 512)

-- the frames of the sixteen universes, whose slots stand in a row: each next 512 are a frame
unfoldable pub frames_in : List ℕ → List (List ℕ)
frames_in slots = first_chunks 512 16 slots

-- the frames of the sixteen universes are those that these levels make
abbrev pub AreDrawn : PatchMap → (ℕ → ℕ) → ℕ → List (List ℕ) → Type 0
AreDrawn patch level grand frames = (ordinal : ℕ) → ordinal < 16
    → slice_get frames ordinal ≡ Some (frame_of patch level grand ordinal)
