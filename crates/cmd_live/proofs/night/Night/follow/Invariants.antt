use Rattle.cmd_live.proofs.Leading.{IsLed}
use Rattle.cmd_live.proofs.night.Night.follow.Given as goal

-- the lines so far
abbrev pub invariant-loop-turn : goal.invariant-loop-turn
invariant-loop-turn g l = IsLed g.F.Fader.stands_for (g.M.MainConsole.tells l.fn.main)
    (g.M.MainConsole.tells l.main) (g.L.Link.tells l.fn.link) (g.L.Link.tells l.link) l.fn.self
    l.self (g.M.MainConsole.given l.fn.main) (g.M.MainConsole.given l.main)
    (g.L.Link.offered l.fn.link) (g.L.Link.offered l.link) l._turn
