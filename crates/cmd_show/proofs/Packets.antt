-- The lines of packets, one after the other.
use Rattle.std.proofs.Common.{arith, ◌≡◌, ◌∙◌, ap, ℕ, ◌<◌, ◌+◌}
use Rattle.std.proofs.Common.{List, [], ◌∷◌, ◌++◌, All, take, length, get_or}
use Rattle.std.proofs.Common.{append_assoc}
use Rattle.std.specs.List.{range_with_len, AllZip}
use Rattle.std.proofs.lemmas.List.Elements.{All-filter}
use Rattle.std.proofs.lemmas.List.{take_more, flat_map_more}
use Rattle.std.proofs.lemmas.List.FromFn.{get_or-range_with_len, length-range_with_len}
use Rattle.hex.specs.Hex.{encode_lower}
use Rattle.sacn_packet.specs.Wire.{IsData}
use Rattle.show_core.specs.Tables.{LevelMap, PatchMap}
use Rattle.show_core.specs.Readers.{patch_ordinals, has_dimmer_in, look_frame}
use Rattle.cmd_show.specs.Texts.{look_fields, hex_line, IsLookPacket, IsLinesOf}

-- the numbers from 0 on are below their count
below : (n : ℕ) → All (λ k. k < n) (range_with_len 0 n)
below n = λ k d h.
    let within : k < n = omega (arith, length-range_with_len 0 n) in
    omega (arith, get_or-range_with_len 0 n k d within)

-- the ordinals of a show are below 16
pub universes_in_range : (patch : PatchMap) → All (λ k. k < 16) (patch_ordinals patch)
universes_in_range patch =
    All-filter (has_dimmer_in patch) (λ k. k < 16) (range_with_len 0 16) (below 16)

-- a relation of pairs holds of one pair more
zip_more : {A B : Type 0} (R : A → B → Type 0) (xs : List A) (ys : List B) (x : A) (y : B)
    → AllZip R xs ys → R x y → AllZip R (xs ++ x ∷ []) (ys ++ y ∷ [])
zip_more R [] [] x y each more = (more, tt)
zip_more R [] (b ∷ ys) x y each more = absurd each
zip_more R (a ∷ xs) [] x y each more = absurd each
zip_more R (a ∷ xs) (b ∷ ys) x y each more = (each.0, zip_more R xs ys x y each.1 more)

-- the line of one more universe
one_more_line : (levels : LevelMap) (patch : PatchMap) (cid ordinals text packet : List ℕ) (k : ℕ)
    → IsLinesOf levels patch cid ordinals text
    → IsData packet (look_fields cid k) (look_frame levels patch k)
    → IsLinesOf levels patch cid (ordinals ++ k ∷ []) ((text ++ encode_lower packet) ++ 10 ∷ [])
one_more_line levels patch cid ordinals text packet k so_far is =
    record {
      packets = so_far.packets ++ packet ∷ [];
      each = zip_more (IsLookPacket levels patch cid) ordinals so_far.packets k packet so_far.each
          is;
      lines = append_assoc text (encode_lower packet) (10 ∷ [])
          ∙ ap (λ front. front ++ hex_line packet) so_far.lines
          ∙ flat_map_more hex_line [] so_far.packets packet;
    }

-- the line of the next of some universes, with the levels of a cue
pub line_added : (levels : LevelMap) (patch : PatchMap) (cid ordinals : List ℕ) (i : ℕ)
    (text packet slots longer : List ℕ)
    → i < length ordinals
    → IsLinesOf levels patch cid (take i ordinals) text
    → IsData packet (look_fields cid (get_or ordinals i 0)) slots
    → slots ≡ look_frame levels patch (get_or ordinals i 0)
    → longer ≡ (text ++ encode_lower packet) ++ 10 ∷ []
    → IsLinesOf levels patch cid (take (i + 1) ordinals) longer
line_added levels patch cid ordinals i text packet slots longer within so_far is full added =
    rw (added, take_more ordinals i 0 within)
    (one_more_line levels patch cid (take i ordinals) text packet _ so_far (rw full at is))
