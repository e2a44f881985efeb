use Rattle.sacn_packet.proofs.Names.{name_in-padded}
use Rattle.sacn_packet.proofs.laws.name_back.Goals as goal

pub returns : goal.returns
returns c = name_in-padded
