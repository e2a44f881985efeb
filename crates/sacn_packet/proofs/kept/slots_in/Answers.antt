use Rattle.std.proofs.Common.{◌∙◌, drop, arith}
use Rattle.std.proofs.lemmas.List.{take_all, length-drop}
use Rattle.sacn_packet.proofs.Packets.{last}
use Rattle.sacn_packet.proofs.kept.slots_in.Goals as goal

pub returns : goal.returns
returns c = λ fields slots h.
    take_all 512 (drop 126 c.args.packet.now)
    (omega (arith, length-drop 126 c.args.packet.now, c.told-packet))
    ∙ last c.args.packet.now 126 slots h.size h.values
