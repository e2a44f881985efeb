use Rattle.wire_world.proofs.Wants.{AreLowsFrom}
use Rattle.wire_world.proofs.lows.lows.Given as goal

abbrev pub invariant-loop-i : goal.invariant-loop-i
invariant-loop-i l = AreLowsFrom l.events l.lows.items l.least l.i
