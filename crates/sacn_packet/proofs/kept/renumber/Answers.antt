use Rattle.sacn_packet.proofs.Packets.{renumbered}
use Rattle.sacn_packet.proofs.kept.renumber.Goals as goal

pub returns-clause-packet : goal.returns-clause-packet
returns-clause-packet c = λ fields slots h. renumbered c.args.packet.now fields slots h
    c.args.sequence c.args.options
