-- What a header asks of its packet.
use Rattle.sacn_packet.specs.declared.writer.Header.{Header}
use Rattle.sacn_packet.specs.Name.{padded_name}
use Rattle.sacn_packet.specs.Wire.{Fields}

-- the fields of a source's own packet: levels for dimmers, not held back for a synchronization
-- packet
abbrev pub header_fields : Header → Fields
header_fields header = record {
  cid = header.cid;
  name = padded_name header.name;
  priority = header.priority;
  sync = 0;
  sequence = header.sequence;
  options = header.options;
  universe = header.universe;
  start = 0;
}
