use Rattle.std.proofs.lemmas.List.{take_rest}
use Rattle.sacn_packet.proofs.data_packet.DataPacket.slots.Goals as goal

pub returns : goal.returns
returns c = rw (← c.self.view_is) (take_rest c.self.inside.bytes.now 126)
