use Rattle.std.proofs.Common.{◌≡◌, option_map}
use Rattle.byte_reading.proofs.SoFar.{SoFar}
use Rattle.network_tables.specs.Best.{best_among, routes_in}
use Rattle.network_tables.specs.Routes.{route_seen}
use Rattle.network_tables.proofs.route_table.best_route.Given as goal

-- the best of the lines so far
abbrev pub invariant-loop : goal.invariant-loop
invariant-loop g l =
    let B = g.B.BlockSource in
    SoFar B.left B.may_fail l.initial.table l.table l.counter
    (λ lines. option_map route_seen l.best ≡ best_among l.host (routes_in lines))
