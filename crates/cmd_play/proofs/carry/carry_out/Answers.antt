use Rattle.cmd_play.proofs.Carrying.{answered_by}
use Rattle.cmd_play.proofs.carry.carry_out.Goals as goal

pub returns-clause-answered : goal.returns-clause-answered
returns-clause-answered g c = λ p h s tells.
    answered_by p h c.args.moment c.args.call _ _ _ _ _
    (c.perform-performed.ensures.performed p h s tells) c.line.ensures c.packets_lost.ensures.count
