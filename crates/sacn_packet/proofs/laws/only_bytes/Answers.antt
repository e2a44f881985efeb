use Rattle.sacn_packet.proofs.Packets.{same_packet}
use Rattle.sacn_packet.proofs.laws.only_bytes.Goals as goal

pub returns : goal.returns
returns c = λ p q fields slots h k.
    cc (same_packet p fields slots h, same_packet q fields slots k)
