use Rattle.std.proofs.Common.{ℕ, ◌≤◌}
use Rattle.wire_world.specs.Wanted.{AreUpTo}
use Rattle.wire_world.proofs.Wants.{AreUpToBefore}
use Rattle.wire_world.proofs.lows.last_wanted.Given as goal

abbrev pub invariant-loop-i : goal.invariant-loop-i
invariant-loop-i l = AreUpToBefore l.events l.last l.i
    × ((last : ℕ) → AreUpTo l.events last → l.last ≤ last)
