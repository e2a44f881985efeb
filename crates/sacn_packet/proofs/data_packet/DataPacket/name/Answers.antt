use Rattle.std.proofs.Common.{sym, ◌∙◌}
use Rattle.sacn_packet.proofs.Names.{take_place, take_no_place}
use Rattle.sacn_packet.proofs.data_packet.DataPacket.name.Goals as goal

pub returns-in-Some : goal.returns-in-Some
returns-in-Some c =
    rw (← c.self.view_is) (take_place _ c.in-Some.end (sym c.zero_in.ensures ∙ c.in-Some.is))

pub returns-in-None : goal.returns-in-None
returns-in-None c =
    rw (← c.self.view_is) (take_no_place _ (sym c.zero_in.ensures ∙ c.in-None.is))
