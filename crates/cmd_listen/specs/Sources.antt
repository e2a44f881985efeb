-- The live sources of a universe, and what is told of them before and after something came.
use Rattle.std.specs.Prelude.{ℕ, ◌+◌, ◌-◌, ◌%◌, ◌==◌, nat_le, nat_lt, Bool, not, ◌&&◌}
use Rattle.std.specs.Prelude.{List, [], ◌∷◌, ◌++◌, take, filter, find, map, flat_map, codes}
use Rattle.std.specs.Prelude.{decimal}
use Rattle.std.specs.Prelude.{if◌then◌else◌}
use Rattle.std.specs.Prelude.{bytes_eq, slice_range, Option, Some, None}
use Rattle.std.specs.List.{list_any}
use Rattle.hex.specs.Hex.{encode_lower}
use Rattle.sacn_packet.specs.Name.{name_in, padded_name}
use Rattle.sacn_packet.specs.Wire.{WirePacket}
use Rattle.sacn_receiver.specs.Shown.{greatest}
use Rattle.cmd_listen.specs.declared.source.Source.{Source}
use Rattle.cmd_listen.specs.declared.text.Head.{Head}

-- ---- the live sources, the one that was heard last first

-- a source, by a packet of it that was accepted at moment t
abbrev pub source_of : ℕ → WirePacket → Source
source_of t p = record {
  cid = p.fields.cid;
  name = padded_name (take 64 (name_in p.fields.name));
  priority = p.fields.priority;
  number = p.fields.sequence;
  moment = t;
}

abbrev pub is_of : List ℕ → Source → Bool
is_of cid source = bytes_eq cid source.cid

-- a source is here for less than 2,500 ms (E1.31-2018, network data loss)
abbrev pub is_here : ℕ → Source → Bool
is_here t source = nat_lt (t - source.moment) 2500

abbrev pub here : ℕ → List Source → List Source
here t sources = filter (is_here t) sources

abbrev pub without_cid : List ℕ → List Source → List Source
without_cid cid sources = filter (λ s. not (is_of cid s)) sources

-- a source in front of the others. There are four at most, as a receiver keeps no more
abbrev pub with_source : Source → List Source → List Source
with_source source sources = source ∷ take 3 (without_cid source.cid sources)

-- ---- texts

-- a line begins with the moment and the universe
abbrev pub line_head : Head → List ℕ
line_head head = decimal head.moment ++ codes " " ++ decimal head.universe ++ codes " "

-- a byte of a name as it is shown: nothing of a zero byte, which fills the field, and `?` of what
-- is no printable ASCII
abbrev pub name_byte : ℕ → List ℕ
name_byte byte =
    if byte == 0 then [] else (if nat_le 32 byte && nat_le byte 126 then byte ∷ [] else 63 ∷ [])

abbrev pub name_text : List ℕ → List ℕ
name_text field = flat_map name_byte field

-- 32 hex digits as those of a UUID are parted
abbrev pub uuid_text : List ℕ → List ℕ
uuid_text digits =
    slice_range digits 0 8 ++ codes "-" ++ slice_range digits 8 12 ++ codes "-"
    ++ slice_range digits 12 16 ++ codes "-" ++ slice_range digits 16 20 ++ codes "-"
    ++ slice_range digits 20 32

-- what a line says of a source: a word, its name and its CID
abbrev pub source_words : Head → List ℕ → Source → List ℕ
source_words head word source =
    line_head head ++ word ++ codes " " ++ name_text source.name ++ codes " "
    ++ uuid_text (encode_lower source.cid)

-- ---- what is told of the sources before and after

-- a source that was there and is not any more
abbrev pub left_line : Head → List ℕ → List Source → Source → List ℕ
left_line head word after source =
    if list_any (is_of source.cid) after then [] else source_words head word source ++ codes "\n"

-- two are of one CID, name and priority
abbrev pub is_alike : Source → Source → Bool
is_alike a b = bytes_eq a.cid b.cid && bytes_eq a.name b.name && (a.priority == b.priority)

-- a source that is new, or has another name or priority
abbrev pub source_line : Head → List Source → Source → List ℕ
source_line head before source =
    if list_any (is_alike source) before then []
    else source_words head (codes "source") source ++ codes " priority " ++ decimal source.priority
    ++ codes "\n"

-- how many numbers are between two, as numbers of a byte
abbrev pub between : ℕ → ℕ → ℕ
between a b = (b + 256 - a) % 256 - 1

-- how many packets of a source never came, from the one before to this one
abbrev pub missed_by : Option Source → Source → ℕ
missed_by None source = 0
missed_by (Some s) source = between s.number source.number

abbrev pub packets_missed : List Source → Source → ℕ
packets_missed before source = missed_by (find (is_of source.cid) before) source

abbrev pub lost_line : Head → List Source → Source → List ℕ
lost_line head before source =
    if packets_missed before source == 0 then []
    else source_words head (codes "lost") source ++ codes " "
    ++ decimal (packets_missed before source)
    ++ codes "\n"

-- one of the greatest priority: its levels are shown
abbrev pub is_leading : List Source → Source → Bool
is_leading sources source = source.priority == greatest (map (λ s. s.priority) sources)

abbrev pub was_leading : List Source → Source → Bool
was_leading before source = list_any (λ s. is_of source.cid s && is_leading before s) before

-- a source that leads, and did not before
abbrev pub lead_line : Head → List Source → List Source → Source → List ℕ
lead_line head before after source =
    if is_leading after source && not (was_leading before source)
    then source_words head (codes "leads") source ++ codes "\n" else []

-- the lines of a source that is there after
abbrev pub news : Head → List Source → List Source → Source → List ℕ
news head before after source =
    source_line head before source ++ lost_line head before source
    ++ lead_line head before after source

-- all that is told of the sources before and after: with `word` those that left
abbrev pub changes : Head → List ℕ → List Source → List Source → List ℕ
changes head word before after =
    flat_map (left_line head word after) before ++ flat_map (news head before after) after
