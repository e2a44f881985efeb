-- What is wrong with the targets of a show.
use Rattle.std.specs.Prelude.{ℕ, List, [], ◌∷◌, ◌==◌, Option, Some, None, option_and_then}
use Rattle.std.specs.Prelude.{option_map, slice_get, if◌then◌else◌}
use Rattle.std.specs.List.{filter_map, list_any}
use Rattle.std.specs.Option.{option_or}
use Rattle.targets.specs.Address.{is_same}
use Rattle.targets.specs.Choice.{addresses_of}
use Rattle.targets.specs.declared.address.Address.{Address}
use Rattle.targets.specs.declared.misfit.TargetMisfit.{TargetMisfit}
use Rattle.targets.specs.declared.misfit.TargetMisfit.TheVariants.{NoTarget, NoUniverse, Twice}
use Rattle.targets.specs.declared.target.Target.{Target}

-- the universe, where it is none of these
abbrev pub unless_among : List ℕ → ℕ → Option TargetMisfit
unless_among universes universe = if list_any (λ n. n == universe) universes
    then None
    else Some (NoUniverse universe)

-- the first or the last universe for which a target is named, where a show with these universes
-- does not have it
abbrev pub foreign_universe : List ℕ → Target → Option TargetMisfit
foreign_universe universes target =
    option_and_then (λ named. option_or (unless_among universes named.first)
    (unless_among universes named.last)) target.universes

-- the first of the addresses that stands again behind itself
abbrev pub first_repeat : List Address → Option Address
first_repeat [] = None
first_repeat (address ∷ behind) =
    if list_any (λ other. is_same other address) behind then Some address else first_repeat behind

-- a universe without an address, or with one twice
abbrev pub lack_of : ℕ → List Address → Option TargetMisfit
lack_of universe [] = Some (NoTarget universe)
lack_of universe addresses = option_map (Twice universe) (first_repeat addresses)

-- what is wrong with the addresses of a universe
abbrev pub lack : List Target → ℕ → Option TargetMisfit
lack targets universe = lack_of universe (addresses_of universe targets)

-- the first target for a universe that the show does not have, or else the first universe without
-- a target or with one twice
abbrev pub misfit_of : List ℕ → List Target → Option TargetMisfit
misfit_of universes targets =
    option_or (slice_get (filter_map (foreign_universe universes) targets) 0)
    (slice_get (filter_map (lack targets) universes) 0)
