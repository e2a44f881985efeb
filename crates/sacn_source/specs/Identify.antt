-- Which source a packet is from, and which packet of its stream it is.
use Rattle.std.specs.Prelude.{ℕ, ◌%◌, Bool, List, if◌then◌else◌}
use Rattle.sacn_packet.specs.Name.{padded_name}
use Rattle.sacn_packet.specs.Wire.{Fields, IsData}
use Rattle.sacn_source.specs.Identity.{Identity}
use Rattle.sacn_source.specs.Stream.{Packet}

-- what a source's packet to a universe says, with this sequence number and these options
abbrev pub packet_fields : Identity → ℕ → ℕ → ℕ → Fields
packet_fields who universe sequence options = record {
  cid = who.cid;
  name = padded_name who.name;
  priority = who.priority;
  sync = 0;
  sequence = sequence;
  options = options;
  universe = universe;
  start = 0;
}

-- options: bit 0x40 is Stream_Terminated
abbrev pub options_of : Bool → ℕ
options_of ends = if ends then 0x40 else 0

-- the bytes of the packet at this place of a source's stream, counted from 0
abbrev pub IsStreamPacket : Identity → ℕ → ℕ → Packet → List ℕ → Type 0
IsStreamPacket who universe place packet bytes =
    IsData bytes (packet_fields who universe (place % 256) (options_of packet.ends)) packet.slots
