-- The cue list as JSON (RFC 8259).
use Rattle.std.specs.Prelude.{ℕ, ◌+◌, ◌==◌, ◌&&◌, ◌||◌, nat_le, if◌then◌else◌, List, [], ◌∷◌, ◌++◌}
use Rattle.std.specs.Prelude.{codes, decimal, flat_map, Option}
use Rattle.std.specs.Option.{option_map_or}
use Rattle.std.specs.FinMap as maps
use Rattle.hex.specs.Hex.{encode_lower}
use Rattle.show_core.specs.declared.rate.Rate.{Rate}
use Rattle.show_core.specs.Readers.{patch_ordinals}
use Rattle.show_core.specs.Tables.{LevelMap, PatchMap, Tables}
use Rattle.show_line.specs.declared.statement.Record.{Record}
use Rattle.show_line.specs.declared.statement.Record.TheVariants.{Cue, Group, Sub}
use Rattle.cmd_cues.specs.declared.cue_rows.CueRow.{CueRow}
use Rattle.cmd_explain.specs.Decimals.{decimal_text}
use Rattle.cmd_cues.specs.Rows.{cue_rows, dimmer_count}

-- a byte inside a string: a quotation mark and a backslash behind a backslash, other printable
-- ASCII as it is, and any other byte as the character of its number
abbrev pub string_byte : ℕ → List ℕ
string_byte b =
    if (b == 34) || (b == 92) then 92 ∷ b ∷ []
    else (if nat_le 32 b && nat_le b 126 then b ∷ [] else codes "\\u00" ++ encode_lower (b ∷ []))

-- bytes as a string
abbrev pub string_text : List ℕ → List ℕ
string_text bytes = codes "\"" ++ flat_map string_byte bytes ++ codes "\""

-- values, each on a line of its own, with a comma before each but the first
abbrev pub items_text : {X : Type 0} → (X → List ℕ) → List X → List ℕ
items_text value [] = []
items_text value (x ∷ xs) = codes "\n" ++ value x ++ flat_map (λ y. codes ",\n" ++ value y) xs

-- those in an array
abbrev pub array_text : {X : Type 0} → (X → List ℕ) → List X → List ℕ
array_text value xs = codes "[" ++ items_text value xs ++ codes "]"

-- a follow-on time, or null where the cue waits for a command
abbrev pub follow_text : Option ℕ → List ℕ
follow_text follow = option_map_or decimal_text follow (codes "null")

-- a rate: its time, by this name, and its delay, in seconds
abbrev pub rate_members : List ℕ → Rate → List ℕ
rate_members name rate =
    codes ",\"" ++ name ++ codes "\":" ++ decimal_text rate.time ++ codes ",\"" ++ name
    ++ codes "_delay\":" ++ decimal_text rate.delay

-- a cue: its number is a string
abbrev pub cue_object : (Record → List ℕ) → CueRow → List ℕ
cue_object label cue =
    codes "{\"number\":\"" ++ decimal_text cue.number
    ++ codes "\",\"label\":" ++ string_text (label (Cue cue.number))
    ++ rate_members (codes "up") cue.up ++ rate_members (codes "down") cue.down
    ++ codes ",\"follow\":" ++ follow_text cue.follow
    ++ codes ",\"channels\":" ++ decimal cue.channels ++ codes "}"

-- a submaster or group
abbrev pub master_object : (ℕ → List ℕ) → ℕ × LevelMap → List ℕ
master_object label e =
    codes "{\"number\":" ++ decimal e.0
    ++ codes ",\"label\":" ++ string_text (label e.0)
    ++ codes ",\"channels\":" ++ decimal (maps.len e.1) ++ codes "}"

-- a universe: its number, with 1 that of ordinal 0, and how many dimmers are patched
abbrev pub universe_object : PatchMap → ℕ → List ℕ
universe_object patch ordinal =
    codes "{\"universe\":" ++ decimal (ordinal + 1)
    ++ codes ",\"dimmers\":" ++ decimal (dimmer_count patch ordinal) ++ codes "}"

-- a patched dimmer: its channel, and the byte that full means
abbrev pub dimmer_object : ℕ × (ℕ × ℕ) → List ℕ
dimmer_object e =
    codes "{\"dimmer\":" ++ decimal e.0 ++ codes ",\"channel\":" ++ decimal e.1.0
    ++ codes ",\"level\":" ++ decimal e.1.1 ++ codes "}"

-- the object of a show
abbrev pub json_text : (Record → List ℕ) → Tables → List ℕ
json_text label show =
    codes "{\"cues\":" ++ array_text (cue_object label) (cue_rows show.cues)
    ++ codes ",\n\"submasters\":"
    ++ array_text (master_object (λ n. label (Sub n))) (maps.entries show.subs)
    ++ codes ",\n\"groups\":"
    ++ array_text (master_object (λ n. label (Group n))) (maps.entries show.groups)
    ++ codes ",\n\"universes\":"
    ++ array_text (universe_object show.patch) (patch_ordinals show.patch)
    ++ codes ",\n\"patch\":" ++ array_text dimmer_object (maps.entries show.patch) ++ codes "}\n"
