-- What `look` prints of a few shows, evaluated.
use Rattle.std.proofs.Common.{◌≡◌, ◌<◌, refl, ap, sym, subst, ◌∙◌, ℕ, ◌+◌, ◌*◌, true, Option, Some}
use Rattle.std.proofs.Common.{None, List, [], ◌∷◌, ◌++◌, map, replicate, length, arith}
use Rattle.std.specs.Prelude.{◌==◌, filter, unwrap_or, codes}
use Rattle.std.specs.List.{list_any, range_with_len}
use Rattle.std.specs.Option.{option_map_or}
use Rattle.std.specs.Ordering.{nat_cmp}
use Rattle.std.specs.Cmp.{nat_cmp_total}
use Rattle.std.specs.FinMap.{is_sorted, find, from_sorted, get}
use Rattle.show_core.proofs.Sorted.{get_is, entries_are}
use Rattle.show_core.specs.Readers.{look_slot, look_frame, ordinal_of, slot_of, patch_ordinals}
use Rattle.show_core.specs.Tables.{LevelMap, PatchMap}
use Rattle.hex.specs.Hex.{encode_with}
use Rattle.sacn_packet.proofs.Packets.{layers_are_data}
use Rattle.sacn_packet.specs.Layers.{dmp_layer, framing_layer, root_layer}
use Rattle.sacn_packet.specs.Wire.{IsData}
use Rattle.cmd_show.specs.Texts.{look_fields, hex_line, IsLookPacket, IsLinesOf, IsLookText}

abbrev cid : List ℕ
cid = 192 ∷ 255 ∷ 238 ∷ 0 ∷ 0 ∷ 0 ∷ 64 ∷ 0 ∷ 128 ∷ 0 ∷ 0 ∷ 0 ∷ 0 ∷ 0 ∷ 225 ∷ 49 ∷ []

levels_of : List (ℕ × ℕ) → LevelMap
levels_of pairs = from_sorted pairs

patch_of : List (ℕ × (ℕ × ℕ)) → PatchMap
patch_of dimmers = from_sorted dimmers

-- the slot of a patched dimmer, or 0, by what is listed for channels
abbrev by_levels : (level : ℕ → Option ℕ) → Option (ℕ × ℕ) → ℕ
by_levels level patched = option_map_or (λ p. slot_of (255 * unwrap_or (level p.0) 0) 255 p.1)
    patched 0

-- the slot of a dimmer, by the pairs of a cue and the patched dimmers, each ascending
abbrev listed_slot : List (ℕ × ℕ) → List (ℕ × (ℕ × ℕ)) → ℕ → ℕ
listed_slot pairs dimmers dimmer =
    by_levels (λ channel. find nat_cmp channel pairs) (find nat_cmp dimmer dimmers)

-- the packet with these slots
abbrev packet : ℕ → List ℕ → List ℕ
packet ordinal slots =
    root_layer 512 cid ++ (framing_layer 512 (look_fields cid ordinal) ++ dmp_layer 512 0 slots)

map_same : (f g : ℕ → ℕ) → ((n : ℕ) → f n ≡ g n) → (ns : List ℕ) → map f ns ≡ map g ns
map_same f g same [] = refl
map_same f g same (n ∷ ns) = ap (λ m. m ∷ map f ns) (same n)
    ∙ ap (λ ms. g n ∷ ms) (map_same f g same ns)

same_levels : (f g : ℕ → Option ℕ) → ((channel : ℕ) → f channel ≡ g channel)
    → (patched : Option (ℕ × ℕ)) → by_levels f patched ≡ by_levels g patched
same_levels f g same None = refl
same_levels f g same (Some p) = ap (λ o. slot_of (255 * unwrap_or o 0) 255 p.1) (same p.0)

module _ (pairs : List (ℕ × ℕ)) (dimmers : List (ℕ × (ℕ × ℕ)))
    (pairs_sorted : is_sorted nat_cmp pairs ≡ true)
    (dimmers_sorted : is_sorted nat_cmp dimmers ≡ true) where
  slot_is : (dimmer : ℕ) → look_slot (levels_of pairs) (patch_of dimmers) dimmer
      ≡ listed_slot pairs dimmers dimmer
  unfolding levels_of patch_of
  slot_is dimmer =
      ap (by_levels (λ channel. get (levels_of pairs) channel))
      (get_is nat_cmp nat_cmp_total dimmers dimmers_sorted dimmer)
      ∙ same_levels (λ channel. get (levels_of pairs) channel)
      (λ channel. find nat_cmp channel pairs) (get_is nat_cmp nat_cmp_total pairs pairs_sorted)
      (find nat_cmp dimmer dimmers)

  frame_is : (ordinal : ℕ) → look_frame (levels_of pairs) (patch_of dimmers) ordinal
      ≡ map (listed_slot pairs dimmers) (range_with_len (512 * ordinal + 1) 512)
  frame_is ordinal = map_same (look_slot (levels_of pairs) (patch_of dimmers))
      (listed_slot pairs dimmers) slot_is (range_with_len (512 * ordinal + 1) 512)

  universes_are : patch_ordinals (patch_of dimmers) ≡ filter
      (λ k. list_any (λ e. ordinal_of e.0 == k) dimmers) (range_with_len 0 16)
  unfolding patch_of
  universes_are = ap (λ es. filter (λ k. list_any (λ e. ordinal_of e.0 == k) es)
      (range_with_len 0 16)) (entries_are nat_cmp nat_cmp_total dimmers dimmers_sorted)

  -- the packet of an ordinal, where the list of its slots is this one
  is_packet : (ordinal : ℕ) (slots : List ℕ) → ordinal < 16 → length slots ≡ 512
      → map (listed_slot pairs dimmers) (range_with_len (512 * ordinal + 1) 512) ≡ slots
      → IsLookPacket (levels_of pairs) (patch_of dimmers) cid ordinal (packet ordinal slots)
  is_packet ordinal slots below size are =
      subst (λ (s : List ℕ). IsData (packet ordinal slots) (look_fields cid ordinal) s)
      (sym (frame_is ordinal ∙ are))
      (layers_are_data 512 (look_fields cid ordinal) slots refl refl size (omega arith)
      (omega arith) (omega arith) (omega arith) (omega arith))

-- channel 1 at half on dimmer 1 at half: slot 1 is at 64
look_one : IsLookText (levels_of ((1, 128) ∷ [])) (patch_of ((1, (1, 128)) ∷ [])) cid
    (hex_line (packet 0 (64 ∷ replicate 511 0)))
unfolding encode_with
look_one =
    subst (λ (ordinals : List ℕ). IsLinesOf (levels_of ((1, 128) ∷ []))
    (patch_of ((1, (1, 128)) ∷ [])) cid ordinals (hex_line (packet 0 (64 ∷ replicate 511 0))))
    (sym (universes_are ((1, 128) ∷ []) ((1, (1, 128)) ∷ []) refl refl))
    (record {
      packets = packet 0 (64 ∷ replicate 511 0) ∷ [];
      each = (
        is_packet ((1, 128) ∷ []) ((1, (1, 128)) ∷ []) refl refl 0 (64 ∷ replicate 511 0)
            (omega arith) refl refl,
        tt,
      );
      lines = refl;
    })

-- and that is its line
look_one-line : hex_line (packet 0 (64 ∷ replicate 511 0)) ≡
    codes "001000004153432d45312e3137000000726e00000004"
    ++ codes "c0ffee0000004000800000000000e131725800000002637565706c61796572"
    ++ replicate 110 48 ++ codes "640000000000" ++ codes "01720b02a10000000102010040"
    ++ replicate 1022 48 ++ codes "\n"
unfolding encode_with
look_one-line = refl

-- channel 1 at full on dimmers 1 and 513: two universes, and slot 1 at full in both
look_two_universes : IsLookText (levels_of ((1, 255) ∷ []))
    (patch_of ((1, (1, 255)) ∷ (513, (1, 255)) ∷ [])) cid
    (hex_line (packet 0 (255 ∷ replicate 511 0)) ++ hex_line (packet 1 (255 ∷ replicate 511 0)))
unfolding encode_with
look_two_universes =
    subst (λ (ordinals : List ℕ). IsLinesOf (levels_of ((1, 255) ∷ []))
    (patch_of ((1, (1, 255)) ∷ (513, (1, 255)) ∷ [])) cid ordinals
    (hex_line (packet 0 (255 ∷ replicate 511 0)) ++ hex_line (packet 1 (255 ∷ replicate 511 0))))
    (sym (universes_are ((1, 255) ∷ []) ((1, (1, 255)) ∷ (513, (1, 255)) ∷ []) refl refl))
    (record {
      packets = packet 0 (255 ∷ replicate 511 0) ∷ packet 1 (255 ∷ replicate 511 0) ∷ [];
      each = (
        is_packet ((1, 255) ∷ []) ((1, (1, 255)) ∷ (513, (1, 255)) ∷ []) refl refl 0
            (255 ∷ replicate 511 0) (omega arith) refl refl,
        (
          is_packet ((1, 255) ∷ []) ((1, (1, 255)) ∷ (513, (1, 255)) ∷ []) refl refl 1
              (255 ∷ replicate 511 0) (omega arith) refl refl,
          tt,
        ),
      );
      lines = refl;
    })

-- without a patched dimmer nothing is printed
look_no_patch : IsLookText (levels_of ((1, 128) ∷ [])) (patch_of []) cid []
look_no_patch =
    subst (λ (ordinals : List ℕ). IsLinesOf (levels_of ((1, 128) ∷ [])) (patch_of []) cid ordinals
    [])
    (sym (universes_are ((1, 128) ∷ []) [] refl refl))
    (record { packets = []; each = tt; lines = refl })
