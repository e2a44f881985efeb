use Rattle.std.proofs.Common.{◌≡◌, ◌+◌, ◌*◌, ◌≤◌}
use Rattle.test_desk.proofs.tests.fades.pass.Given as goal

-- the calls so far are not after the next one
abbrev pub invariant-loop-moment : goal.invariant-loop-moment
invariant-loop-moment g l =
    (g.F.Fader.latest l.fader ≤ l.moment)
    × (g.F.Fader.channels l.fader ≡ g.F.Fader.channels l.fn.fader)

abbrev pub invariant-loop-tick : goal.invariant-loop-tick
invariant-loop-tick g l =
    (g.F.Fader.latest l.fader ≤ l.from + 23 * l.tick)
    × (g.F.Fader.channels l.fader ≡ g.F.Fader.channels l.fn.fader)
