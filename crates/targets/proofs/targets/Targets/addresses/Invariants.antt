use Rattle.std.proofs.Common.{◌≡◌, ◌≤◌, length, map, take, cond}
use Rattle.std.specs.Prelude.{filter}
use Rattle.targets.specs.Address.{address_at}
use Rattle.targets.specs.Choice.{is_general, is_named}
use Rattle.targets.proofs.targets.Targets.addresses.Given as goal

abbrev pub invariant-loop-target : goal.invariant-loop-target
invariant-loop-target l = (length l.addresses.items ≤ l.target-index)
    × (l.addresses.items ≡ map (λ target. address_at l.universe target.address)
    (filter (λ target. cond l.is_named (is_named l.universe target) (is_general target))
    (take l.target-index l.target-items)))
