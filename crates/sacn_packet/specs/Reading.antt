-- What stands in the bytes of a packet, read field by field.
use Rattle.std.specs.Prelude.{ℕ, ◌+◌, ◌/◌, ◌%◌, List, take, drop, slice_index}
use Rattle.byteorder.specs.Endian.{big_number}
use Rattle.sacn_packet.specs.Wire.{bytes_at, WirePacket}

-- the number in the two bytes from an offset on
abbrev pub number_at : List ℕ → ℕ → ℕ
number_at bytes offset = big_number 2 (bytes_at bytes offset 2)

-- the flags in the two bytes that open a PDU
abbrev pub flags_at : List ℕ → ℕ → ℕ
flags_at bytes offset = number_at bytes offset / 4096

-- the length in the two bytes that open a PDU
abbrev pub length_at : List ℕ → ℕ → ℕ
length_at bytes offset = number_at bytes offset % 4096

-- the fields and the slots of a packet's own bytes
abbrev pub packet_in : List ℕ → WirePacket
packet_in p = record {
  fields = record {
    cid = bytes_at p 22 16;
    name = bytes_at p 44 64;
    priority = slice_index p 108;
    sync = number_at p 109;
    sequence = slice_index p 111;
    options = slice_index p 112;
    universe = number_at p 113;
    start = slice_index p 125;
  };
  slots = drop 126 p;
}

-- the packet at the front of a datagram, if there is one: it ends where the root layer's length
-- says
abbrev pub front_packet : List ℕ → WirePacket
front_packet datagram = packet_in (take (16 + length_at datagram 16) datagram)
