-- What a night is told, the newest first.
use Rattle.std.specs.Prelude.{ℕ, List, [], ◌∷◌}
use Rattle.cmd_live.specs.declared.main_console.Led.{Led}
use Rattle.cmd_live.specs.declared.main_console.Led.TheVariants.{Line}

-- the lines among it
abbrev pub lines_told : List Led → List (List ℕ)
lines_told [] = []
lines_told (Line line ∷ older) = line.items ∷ lines_told older
lines_told (_ ∷ older) = lines_told older
