-- The bytes of the packets of a stream, as a function of the packet and its place.
use Rattle.std.specs.Prelude.{ℕ, ◌%◌, List, ◌++◌}
use Rattle.sacn_packet.specs.Layers.{root_layer, framing_layer, dmp_layer}
use Rattle.sacn_packet.specs.Wire.{Fields}
use Rattle.sacn_source.specs.Identify.{packet_fields, options_of}
use Rattle.sacn_source.specs.Identity.{Identity}
use Rattle.sacn_source.specs.Stream.{Packet}

-- what packet k of a universe says besides its slots
abbrev pub fields_at : Identity → ℕ → ℕ → Packet → Fields
fields_at source universe k packet =
    packet_fields source universe (k % 256) (options_of packet.ends)

-- its 638 bytes, layer by layer: the only ones that the wire relation allows for its fields and
-- slots (`DatagramsArePackets`)
unfoldable pub packet_bytes : Identity → ℕ → ℕ → Packet → List ℕ
packet_bytes source universe k packet =
    root_layer 512 source.cid
    ++ (framing_layer 512 (fields_at source universe k packet) ++ dmp_layer 512 0 packet.slots)
