-- What is told of the targets of a night.
use Rattle.std.specs.Prelude.{ℕ, ◌==◌, if◌then◌else◌, List, [], ◌∷◌, ◌++◌, length}
use Rattle.std.specs.Prelude.{codes, decimal, Option, Some, None}
use Rattle.targets.specs.Address.{is_groups}
use Rattle.targets.specs.Choice.{is_general}
use Rattle.targets.specs.declared.target.Target.{Target}
use Rattle.targets.specs.declared.target.Universes.{Universes}
use Rattle.network_tables.specs.Texts.{host_text}
use Rattle.night_lines.specs.Contents.{count_text}

-- the address of a target, which may stand for the multicast groups of all universes
abbrev pub address_text : Target → List ℕ
address_text target =
    host_text target.address.host ++ codes ":" ++ decimal target.address.port
    ++ (if is_groups target.address then codes " (multicast)" else [])

-- the only target, where it is for all universes
abbrev pub sole_target : List Target → Option Target
sole_target (target ∷ []) = if is_general target then Some target else None
sole_target _ = None

-- where packets go: to the only target, or to so many
abbrev pub goal_text : Option Target → ℕ → List ℕ
goal_text (Some target) count = codes " to " ++ address_text target
goal_text None count = codes " to " ++ count_text count (codes "target")

-- where the packets of a night go
abbrev pub targets_text : List Target → List ℕ
targets_text targets = goal_text (sole_target targets) (length targets)

-- the universes that a target is named for
abbrev pub range_text : Option Universes → List ℕ
range_text None = []
range_text (Some universes) =
    if universes.first == universes.last
    then codes "universe " ++ decimal universes.first ++ codes " to "
    else codes "universes " ++ decimal universes.first ++ codes "-" ++ decimal universes.last
    ++ codes " to "

-- a target, where there are several
abbrev pub target_line : Target → List ℕ
target_line target =
    codes "target: " ++ range_text target.universes ++ address_text target ++ codes "\n"
