use Rattle.std.proofs.Common.{◌≡◌, [], take}
use Rattle.std.specs.Prelude.{All}
use Rattle.sacn_source.specs.Stands.{LaneStands, lane_universes}
use Rattle.sacn_source.proofs.sender.Sender.open.Given as goal

-- a lane for each universe so far
abbrev pub invariant-loop-universe : goal.invariant-loop-universe
invariant-loop-universe l = record {
  universes : lane_universes l.lanes.items ≡ take l.universe-index l.universes;
  stand : All (λ lane. LaneStands l.who lane [] 0) l.lanes.items;
}
