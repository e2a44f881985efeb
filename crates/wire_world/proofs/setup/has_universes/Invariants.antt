use Rattle.std.proofs.Common.{◌≡◌, drop}
use Rattle.wire_world.specs.Refusing.{are_universes}
use Rattle.wire_world.proofs.setup.has_universes.Given as goal

abbrev pub invariant-loop-i : goal.invariant-loop-i
invariant-loop-i l = are_universes (drop l.i l.universes) ≡ are_universes l.universes
