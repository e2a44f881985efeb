use Rattle.cmd_live.proofs.TakingUp.{HasTaken}
use Rattle.cmd_live.proofs.night.Night.take_up.Given as goal

-- the bytes so far
abbrev pub invariant-loop-at : goal.invariant-loop-at
invariant-loop-at g l = HasTaken g.F.Fader.stands_for (g.L.Link.tells l.fn.link)
    (g.L.Link.tells l.link) l.fn.self l.self l.text l.at l.from l.number
    (g.L.Link.offered l.fn.link) (g.L.Link.offered l.link)
