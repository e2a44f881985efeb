-- Both sides of each bound, evaluated.
use Rattle.std.proofs.Common.{◌≡◌, ℕ, true, false, List, [], ◌∷◌, Some, None, length, refl, ap}
use Rattle.std.specs.Prelude.{◌==◌, filter}
use Rattle.std.specs.List.{list_any, range_with_len}
use Rattle.std.specs.Ordering.{nat_cmp}
use Rattle.std.specs.FinMap as map
use Rattle.show_core.specs.declared.rate.Rate.{Rate}
use Rattle.show_core.specs.Numbers.{is_channel, is_dimmer, is_sub, is_group, is_cue_number, is_time}
use Rattle.show_core.specs.Tables.{LevelMap, CueMap, PatchMap}
use Rattle.show_core.specs.Builders.{can_open, can_patch}
use Rattle.show_core.specs.Readers.{rate_of, ordinal_of, patch_ordinals, slot_of, look_frame}

channels : (is_channel 0 ≡ false) × (is_channel 1 ≡ true)
    × (is_channel 4096 ≡ true) × (is_channel 4097 ≡ false)
channels = (refl, refl, refl, refl)

dimmers : (is_dimmer 0 ≡ false) × (is_dimmer 1 ≡ true)
    × (is_dimmer 8192 ≡ true) × (is_dimmer 8193 ≡ false)
dimmers = (refl, refl, refl, refl)

submasters : (is_sub 0 ≡ false) × (is_sub 1 ≡ true) × (is_sub 100 ≡ true) × (is_sub 101 ≡ false)
submasters = (refl, refl, refl, refl)

groups : (is_group 0 ≡ false) × (is_group 1 ≡ true)
    × (is_group 500 ≡ true) × (is_group 501 ≡ false)
groups = (refl, refl, refl, refl)

-- cue 0.001 and cue 9999.999 are the least and the greatest
cue_numbers : (is_cue_number 0 ≡ false) × (is_cue_number 1 ≡ true)
    × (is_cue_number 9999999 ≡ true) × (is_cue_number 10000000 ≡ false)
cue_numbers = (refl, refl, refl, refl)

-- 99:59.99 is the longest time
times : (is_time 0 ≡ true) × (is_time 5999990 ≡ true) × (is_time 5999991 ≡ false)
times = (refl, refl, refl)

-- a cue that is not there opens as the 2,000th and not as the 2,001st
module _ (cues : CueMap) (n : ℕ) (absent : map.contains_key cues n ≡ false) where
  room_for_one : map.len cues ≡ 1999 → is_cue_number n ≡ true → can_open cues n ≡ true
  room_for_one many number = rw (number, absent, many) refl

  no_room : map.len cues ≡ 2000 → is_cue_number n ≡ true → can_open cues n ≡ false
  no_room many number = rw (number, absent, many) refl

-- the rate that is set, the other's, and zeros
rates : (rate : Rate) → (rate_of (Some rate) None ≡ rate) × (rate_of None (Some rate) ≡ rate)
    × (rate_of None None ≡ record { time = 0; delay = 0 })
rates rate = (refl, refl, refl)

-- channel 0 leaves a dimmer unpatched
patches : (can_patch 1 0 ≡ true) × (can_patch 8192 4096 ≡ true)
    × (can_patch 0 1 ≡ false) × (can_patch 8193 0 ≡ false) × (can_patch 1 4097 ≡ false)
patches = (refl, refl, refl, refl, refl)

ordinals : (ordinal_of 1 ≡ 0) × (ordinal_of 512 ≡ 0) × (ordinal_of 513 ≡ 1)
    × (ordinal_of 7680 ≡ 14) × (ordinal_of 7681 ≡ 15) × (ordinal_of 8192 ≡ 15)
ordinals = (refl, refl, refl, refl, refl, refl)

-- dimmers of the first and of the last universe
both_ends : List (ℕ × (ℕ × ℕ))
both_ends = (1, (1, 255)) ∷ (512, (1, 255)) ∷ (8192, (4096, 255)) ∷ []

universes : patch_ordinals (map.from_sorted both_ends) ≡ 0 ∷ 15 ∷ []
unfolding both_ends
universes =
    ap (λ es. filter (λ k. list_any (λ e. ordinal_of e.0 == k) es) (range_with_len 0 16))
    (map.entries-from_sorted nat_cmp both_ends tt)

frame_of_512 : (levels : LevelMap) (patch : PatchMap) → length (look_frame levels patch 15) ≡ 512
frame_of_512 levels patch = refl

-- to the nearest byte, and full at full
slots : (slot_of 8290687 1 1 ≡ 0) × (slot_of 8290688 1 1 ≡ 1) × (slot_of 32640 255 128 ≡ 64)
    × (slot_of 65025 255 255 ≡ 255) × (slot_of 65025 255 254 ≡ 254)
slots = (refl, refl, refl, refl, refl)
