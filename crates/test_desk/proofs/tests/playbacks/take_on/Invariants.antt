use Rattle.std.proofs.Common.{◌≤◌}
use Rattle.test_desk.proofs.tests.playbacks.take_on.Given as goal

-- the steps so far are not after the next one
abbrev pub invariant-loop-moment : goal.invariant-loop-moment
invariant-loop-moment g l = g.F.Fader.latest l.playback.fader ≤ l.now
