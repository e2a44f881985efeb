-- What patches make of levels, evaluated.
use Rattle.std.proofs.Common.{◌≡◌, ℕ, ◌+◌, ◌*◌, T, Bool, true, false, List, [], ◌∷◌, refl, ap}
use Rattle.std.proofs.Common.{Option, Some, None}
use Rattle.std.specs.Prelude.{◌==◌, ◌&&◌, filter, slice_get}
use Rattle.std.specs.List.{list_all, list_any, range_with_len}
use Rattle.std.specs.Option.{option_map_or}
use Rattle.std.specs.Ordering.{nat_cmp}
use Rattle.std.specs.Cmp.{nat_cmp_total}
use Rattle.std.specs.FinMap.{is_sorted, from_sorted, entries-from_sorted}
use Rattle.show_core.specs.Readers.{slot_of, ordinal_of}
use Rattle.show_core.specs.Tables.{PatchMap}
use Rattle.show_core.proofs.Sorted.{get_is}
use Rattle.patch_core.specs.Frame.{is_base, is_universe, dimmer_slot}

-- dimmer 1 on channel 7 at half, dimmer 513 on channel 7 at full
two_dimmers : List (ℕ × (ℕ × ℕ))
two_dimmers = (1, (7, 128)) ∷ (513, (7, 255)) ∷ []

patch_of : List (ℕ × (ℕ × ℕ)) → PatchMap
patch_of es = from_sorted es

-- the channel at half, and a dimmer that is not patched
frame_half : dimmer_slot (patch_of two_dimmers) (λ _. 32640) 255 1 ≡ 64
unfolding two_dimmers patch_of
frame_half = ap (λ o. option_map_or (λ p. slot_of 32640 255 p.1) o 0)
    (get_is nat_cmp nat_cmp_total two_dimmers refl 1)

unpatched_is_dark : dimmer_slot (patch_of two_dimmers) (λ _. 32640) 255 2 ≡ 0
unfolding two_dimmers patch_of
unpatched_is_dark = ap (λ o. option_map_or (λ p. slot_of 32640 255 p.1) o 0)
    (get_is nat_cmp nat_cmp_total two_dimmers refl 2)

-- whether a base serves a list of dimmers
serves : ℕ → List (ℕ × (ℕ × ℕ)) → Bool
serves base es =
    is_universe base
    && list_all (λ k. is_universe (base + k))
    (filter (λ k. list_any (λ e. ordinal_of e.0 == k) es) (range_with_len 0 16))

base_serves : (base : ℕ) (es : List (ℕ × (ℕ × ℕ))) → T (is_sorted nat_cmp es)
    → is_base (patch_of es) base ≡ serves base es
unfolding is_base serves patch_of
base_serves base es sorted = ap (serves base) (entries-from_sorted nat_cmp es sorted)

-- no dimmer patched: the base alone counts
universe_limit-none : (is_base (patch_of []) 0 ≡ false) × (is_base (patch_of []) 1 ≡ true)
    × (is_base (patch_of []) 63999 ≡ true) × (is_base (patch_of []) 64000 ≡ false)
unfolding serves
universe_limit-none =
    (base_serves 0 [] tt, base_serves 1 [] tt, base_serves 63999 [] tt, base_serves 64000 [] tt)

-- ordinals 0 and 1 in use
universe_limit : (is_base (patch_of two_dimmers) 63998 ≡ true)
    × (is_base (patch_of two_dimmers) 63999 ≡ false)
unfolding two_dimmers serves
universe_limit = (base_serves 63998 two_dimmers tt, base_serves 63999 two_dimmers tt)

-- one dimmer at an edge of its universe
edge : ℕ → List (ℕ × (ℕ × ℕ))
edge dimmer = (dimmer, (1, 255)) ∷ []

-- all sixteen universes have a number where the last has one: dimmers 7681 to 8192
universe_limit-sixteen : (is_base (patch_of (edge 7681)) 63984 ≡ true)
    × (is_base (patch_of (edge 7681)) 63985 ≡ false) × (is_base (patch_of (edge 8192)) 63984 ≡ true)
    × (is_base (patch_of (edge 8192)) 63985 ≡ false)
unfolding edge serves
universe_limit-sixteen = (
  base_serves 63984 (edge 7681) tt,
  base_serves 63985 (edge 7681) tt,
  base_serves 63984 (edge 8192) tt,
  base_serves 63985 (edge 8192) tt,
)

-- dimmer 512 is the last of ordinal 0, and dimmer 7680 of ordinal 14
universe_limit-edges : (is_base (patch_of (edge 512)) 63999 ≡ true)
    × (is_base (patch_of (edge 7680)) 63985 ≡ true)
unfolding edge serves
universe_limit-edges = (base_serves 63999 (edge 512) tt, base_serves 63985 (edge 7680) tt)

-- the dimmers of a universe: 1 to 512 of ordinal 0, and 7681 to 8192 of ordinal 15
abbrev dimmer_at : ℕ → ℕ → Option ℕ
dimmer_at ordinal place = slice_get (range_with_len (512 * ordinal + 1) 512) place

frame_dimmers : (dimmer_at 0 0 ≡ Some 1) × (dimmer_at 0 511 ≡ Some 512) × (dimmer_at 0 512 ≡ None)
    × (dimmer_at 15 0 ≡ Some 7681) × (dimmer_at 15 511 ≡ Some 8192) × (dimmer_at 15 512 ≡ None)
frame_dimmers = (refl, refl, refl, refl, refl, refl)
