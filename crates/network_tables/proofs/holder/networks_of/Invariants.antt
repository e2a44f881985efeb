use Rattle.std.proofs.Common.{◌≡◌, take}
use Rattle.std.specs.Prelude.{filter}
use Rattle.network_tables.specs.Holders.{is_widest}
use Rattle.network_tables.proofs.holder.networks_of.Given as goal

abbrev pub invariant-loop-network : goal.invariant-loop-network
invariant-loop-network l = l.found.items
    ≡ take 3 (filter (is_widest l.address l.networks) (take l.network-index l.networks))
