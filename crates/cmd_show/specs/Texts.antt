-- What `check` and `look` print of a show.
use Rattle.std.specs.Prelude.{◌≡◌, ℕ, ◌+◌, List, ◌++◌, flat_map, codes, decimal}
use Rattle.std.specs.List.{AllZip}
use Rattle.std.specs.FinMap as maps
use Rattle.hex.specs.Hex.{encode_lower}
use Rattle.show_core.specs.Tables.{LevelMap, PatchMap, Tables}
use Rattle.show_core.specs.Readers.{patch_ordinals, look_frame}
use Rattle.sacn_packet.specs.Name.{padded_name}
use Rattle.sacn_packet.specs.Wire.{Fields, IsData}

-- the line of `check`, from its six numbers
abbrev pub counts_line : ℕ → ℕ → ℕ → ℕ → ℕ → ℕ → List ℕ
counts_line lines cues subs groups dimmers skipped =
    codes "lines " ++ decimal lines ++ codes " cues " ++ decimal cues ++ codes " subs "
    ++ decimal subs
    ++ codes " groups " ++ decimal groups ++ codes " dimmers " ++ decimal dimmers
    ++ codes " skipped " ++ decimal skipped ++ codes "\n"

-- the line of `check` for a show, of whose text so many lines were read and skipped; the dimmers
-- are those that are patched
abbrev pub check_text : ℕ → ℕ → Tables → List ℕ
check_text lines skipped show =
    counts_line lines (maps.len show.cues) (maps.len show.subs) (maps.len show.groups)
    (maps.len show.patch) skipped

-- what a packet of `look` says beside its slots: with base 1 the universe of ordinal 0 is universe
-- 1
abbrev pub look_fields : List ℕ → ℕ → Fields
look_fields cid ordinal = record {
  cid = cid;
  name = padded_name (codes "cueplayer");
  priority = 100;
  sync = 0;
  sequence = 0;
  options = 0;
  universe = ordinal + 1;
  start = 0;
}

-- the packet of an ordinal's universe, with the levels alone at full
abbrev pub IsLookPacket : LevelMap → PatchMap → List ℕ → ℕ → List ℕ → Type 0
IsLookPacket levels patch cid ordinal packet =
    IsData packet (look_fields cid ordinal) (look_frame levels patch ordinal)

-- a packet's line: its bytes in lower case hex, and LF
abbrev pub hex_line : List ℕ → List ℕ
hex_line packet = encode_lower packet ++ codes "\n"

-- the text is the lines of the packets of the universes with these ordinals, in their order
pub record IsLinesOf (levels : LevelMap) (patch : PatchMap) (cid ordinals text : List ℕ)
    : Type 0 where
  pub packets : List (List ℕ)
  pub each : AllZip (IsLookPacket levels patch cid) ordinals packets
  pub lines : text ≡ flat_map hex_line packets

-- the text of `look`: a line for each universe that has a patched dimmer, ascending
abbrev pub IsLookText : LevelMap → PatchMap → List ℕ → List ℕ → Type 0
IsLookText levels patch cid text = IsLinesOf levels patch cid (patch_ordinals patch) text
