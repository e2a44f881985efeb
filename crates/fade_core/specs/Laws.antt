-- Laws over the definitions alone.
use Rattle.std.specs.Prelude.{ℕ, ◌≤◌, List}
use Rattle.fade_core.specs.Level.{Start, level_after, target_after, IsTowards}

-- a fade never turns back: as time passes, each channel goes from its level towards its target
abbrev pub FadesNeverTurnBack : Type 0
FadesNeverTurnBack =
    (starts : List Start) (channel x y : ℕ) → x ≤ y
    → IsTowards (level_after starts channel x) (target_after starts channel)
    (level_after starts channel y)
