use Rattle.std.proofs.Common.{◌≡◌, ◌≤◌, ◌*◌}
use Rattle.std.specs.Prelude.{Contains}
use Rattle.sacn_source.specs.Stands.{earliest_of, ended_of, lane_universes}
use Rattle.test_stream.proofs.tests.source.answers.Given as goal

-- the offers so far were earlier
abbrev pub invariant-loop-tick : goal.invariant-loop-tick
invariant-loop-tick l = record {
  here : Contains (lane_universes l.sender) 1;
  later : earliest_of l.sender 1 ≤ 25 * l.tick;
  live : ended_of l.sender 1 ≡ 0;
}
