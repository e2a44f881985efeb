use Rattle.std.proofs.Common.{◌≡◌, [], take}
use Rattle.std.specs.List.{filter_map}
use Rattle.targets.specs.Misfit.{foreign_universe, lack}
use Rattle.targets.proofs.targets.Targets.misfit.Given as goal

abbrev pub invariant-loop-target : goal.invariant-loop-target
invariant-loop-target l =
    filter_map (foreign_universe l.universes) (take l.target-index l.target-items) ≡ []

abbrev pub invariant-loop-universe : goal.invariant-loop-universe
invariant-loop-universe l = (filter_map (foreign_universe l.universes) l.self ≡ [])
    × (filter_map (lack l.self) (take l.universe-index l.universes) ≡ [])
