use Rattle.std.proofs.Common.{◌≡◌, ◌+◌}
use Rattle.sacn_source.specs.Stands.{lane_universes}
use Rattle.timings.specs.Streams.{TakesFrom}
use Rattle.timings.proofs.stream.offer_all.Given as goal

-- the offers so far were earlier
abbrev pub invariant-loop-i : goal.invariant-loop-i
invariant-loop-i l = record {
  same : lane_universes l.sender ≡ l.universes;
  takes : TakesFrom l.sender (l.moment + l.i);
}
