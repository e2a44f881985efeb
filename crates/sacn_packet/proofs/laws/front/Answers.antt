use Rattle.sacn_packet.proofs.Found.{packet_ends, readable_from_packet}
use Rattle.sacn_packet.proofs.Readable.{none_from_readable}
use Rattle.sacn_packet.proofs.laws.front.Goals as goal

pub returns : goal.returns
returns c =
    λ datagram packet h. (
      none_from_readable datagram
          (readable_from_packet datagram h.0 packet.fields packet.slots h.1),
      packet_ends datagram packet h,
    )
