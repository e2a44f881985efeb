use Rattle.std.proofs.Common.{sym, ◌∙◌}
use Rattle.sacn_packet.proofs.Found.{packet_end, same_packets}
use Rattle.sacn_packet.proofs.laws.only_prefix.Goals as goal

pub returns : goal.returns
returns c = λ datagram m n one other h k. (
  packet_end datagram m one h ∙ sym (packet_end datagram n other k),
  same_packets datagram one other (m, h) (n, k),
)
