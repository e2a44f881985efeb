use Rattle.std.proofs.Common.{All}
use Rattle.byte_reading.proofs.SoFar.{SoFar}
use Rattle.network_tables.specs.NeighborRows.{IsNoNeighbor}
use Rattle.network_tables.proofs.neighbor_table.next_neighbor.Given as goal

-- the lines so far are no neighbor's
abbrev pub invariant-loop : goal.invariant-loop
invariant-loop g l =
    let B = g.B.BlockSource in
    SoFar B.left B.may_fail l.initial.table l.table l.counter (All IsNoNeighbor)
