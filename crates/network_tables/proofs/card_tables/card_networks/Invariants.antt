use Rattle.std.proofs.Common.{◌≡◌, map}
use Rattle.byte_reading.proofs.SoFar.{SoFar}
use Rattle.network_tables.specs.CardTables.{card_networks}
use Rattle.network_tables.specs.Routes.{route_seen}
use Rattle.network_tables.proofs.card_tables.card_networks.Given as goal

-- the networks of the lines so far
abbrev pub invariant-loop : goal.invariant-loop
invariant-loop g l =
    let B = g.B.BlockSource in
    SoFar B.left B.may_fail l.initial.table l.table l.counter
    (λ lines. map route_seen l.networks.items ≡ card_networks lines)
