use Rattle.std.proofs.Common.{◌≡◌, ◌*◌}
use Rattle.sacn_source.specs.Stands.{lane_universes}
use Rattle.timings.specs.Streams.{TakesFrom}
use Rattle.timings.proofs.stream.stream.Given as goal

-- the frames so far were earlier
abbrev pub invariant-loop-round : goal.invariant-loop-round
invariant-loop-round l = record {
  same : lane_universes l.sender ≡ l.universes;
  takes : TakesFrom l.sender (25 * l.round);
}
