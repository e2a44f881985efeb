use Rattle.std.proofs.Common.{◌≡◌, List, [], None, fold}
use Rattle.byte_reading.proofs.SoFar.{SoFar}
use Rattle.network_tables.specs.CardTables.{SayEach}
use Rattle.network_tables.specs.Trees.{found_after, found_seen}
use Rattle.network_tables.specs.declared.tree.TreeLine.{TreeLine}
use Rattle.network_tables.proofs.card_tables.own_addresses.Given as goal

-- what the lines so far say
abbrev pub invariant-loop : goal.invariant-loop
invariant-loop g l =
    let B = g.B.BlockSource in
    SoFar B.left B.may_fail l.initial.tree l.tree l.counter
    (λ lines. (said : List TreeLine) × SayEach lines said
    × (found_seen l.own ≡ fold found_after (record { leaf = None; addresses = [] }) said))
