-- What is told of targets that do not suit a show.
use Rattle.std.specs.Prelude.{ℕ, List, [], ◌∷◌, codes, decimal}
use Rattle.network_tables.specs.Texts.{host_text}
use Rattle.targets.specs.declared.address.Address.{Address}
use Rattle.targets.specs.declared.misfit.TargetMisfit.{TargetMisfit}
use Rattle.targets.specs.declared.misfit.TargetMisfit.TheVariants.{NoTarget, NoUniverse, Twice}
use Rattle.remarks.specs.Remarks.{remark_of}

-- a target is named for a universe that the show does not have
abbrev pub no_universe : ℕ → List ℕ
no_universe universe = remark_of (codes "--to names universe " ∷ decimal universe
    ∷ codes ": the show does not have it" ∷ [])

-- a universe of the show has none
abbrev pub no_target : ℕ → List ℕ
no_target universe = remark_of (codes "universe " ∷ decimal universe
    ∷ codes " has no target: --to names none for it, and none for all" ∷ [])

-- a universe has one twice
abbrev pub target_twice : ℕ → Address → List ℕ
target_twice universe address = remark_of (codes "universe " ∷ decimal universe
    ∷ codes " has the target " ∷ host_text address.host ∷ codes ":" ∷ decimal address.port
    ∷ codes " twice" ∷ [])

-- what is wrong with the targets of a show
abbrev pub of_target : TargetMisfit → List ℕ
of_target (NoUniverse universe) = no_universe universe
of_target (NoTarget universe) = no_target universe
of_target (Twice universe address) = target_twice universe address
