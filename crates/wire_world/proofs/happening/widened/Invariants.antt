use Rattle.std.proofs.Common.{◌≡◌, take}
use Rattle.wire_world.specs.Widened.{happenings}
use Rattle.wire_world.proofs.happening.widened.Given as goal

-- the events so far
abbrev pub invariant-loop-event : goal.invariant-loop-event
invariant-loop-event l = l.happenings.items ≡ happenings (take l.event-index l.events)
