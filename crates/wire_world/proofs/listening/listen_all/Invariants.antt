use Rattle.wire_world.specs.Stands.{AreListening}
use Rattle.wire_world.proofs.listening.listen_all.Given as goal

abbrev pub invariant-loop-i : goal.invariant-loop-i
invariant-loop-i l = AreListening l.receivers.items l.universes l.i
