-- Which of the targets a universe has.
use Rattle.std.specs.Prelude.{ℕ, List, map, filter, Bool, false, not, ◌&&◌, is_some}
use Rattle.std.specs.Prelude.{nat_le, if◌then◌else◌}
use Rattle.std.specs.List.{list_any}
use Rattle.std.specs.Option.{option_map_or}
use Rattle.targets.specs.Address.{address_at}
use Rattle.targets.specs.declared.address.Address.{Address}
use Rattle.targets.specs.declared.target.Target.{Target}
use Rattle.targets.specs.declared.target.Universes.{Universes}

-- whether a universe is one of these
abbrev pub contains : ℕ → Universes → Bool
contains universe universes =
    nat_le universes.first universe && nat_le universe universes.last

-- whether a target is named for a universe
abbrev pub is_named : ℕ → Target → Bool
is_named universe target = option_map_or (contains universe) target.universes false

-- whether a target is named for all universes
abbrev pub is_general : Target → Bool
is_general target = not (is_some target.universes)

-- the targets of a universe: those that are named for it, and where there are none, those that are
-- named for all
abbrev pub targets_for : ℕ → List Target → List Target
targets_for universe targets =
    if list_any (is_named universe) targets
    then filter (is_named universe) targets
    else filter is_general targets

-- the addresses of a universe, in the order in which the targets were named
abbrev pub addresses_of : ℕ → List Target → List Address
addresses_of universe targets =
    map (λ target. address_at universe target.address) (targets_for universe targets)
