-- Where each dimmer finds its level, and its byte.
use Rattle.std.specs.Prelude.{◌≡◌, ℕ, ◌+◌, ◌<◌, ◌⊎◌, List, length, slice_index}
use Rattle.show_core.specs.Readers.{slot_of}
use Rattle.show_core.specs.Tables.{PatchMap}
use Rattle.patch_core.specs.Frame.{dimmer_slot}
use Rattle.patch_core.specs.declared.sources.Bytes.{Bytes}
use Rattle.patch_core.specs.declared.sources.Bytes.TheVariants.{Dark, Full, FullOrDark, Mixed}

-- for each dimmer the place of its channel's level, channel 1 first, and its byte: the two make its
-- slot, whatever the levels are. A dimmer that is not patched has the byte 0
pub record AreSources (patch : PatchMap) (sources bytes : List ℕ) : Type 0 where
  pub each_source : length sources ≡ 8192
  pub each_byte : length bytes ≡ 8192
  pub in_range : (p : ℕ) → slice_index sources p < 4096
  pub slots : (p : ℕ) → p < 8192 → (level : ℕ → ℕ) (grand : ℕ)
      → slot_of (level (slice_index sources p + 1)) grand (slice_index bytes p)
      ≡ dimmer_slot patch level grand (p + 1)

-- the 512 bytes from a place on are all 0, are all 255, are each 0 or 255, or are any
abbrev pub AreBytesOf : Bytes → List ℕ → ℕ → Type 0
AreBytesOf Dark bytes first = (s : ℕ) → s < 512 → slice_index bytes (first + s) ≡ 0
AreBytesOf Full bytes first = (s : ℕ) → s < 512 → slice_index bytes (first + s) ≡ 255
AreBytesOf FullOrDark bytes first = (s : ℕ) → s < 512
    → (slice_index bytes (first + s) ≡ 0) ⊎ (slice_index bytes (first + s) ≡ 255)
AreBytesOf Mixed bytes first = Unit {0}
