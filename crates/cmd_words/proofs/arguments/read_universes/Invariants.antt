use Rattle.std.proofs.Common.{◌≡◌, ◌≤◌, All, Ok, length, map, take}
use Rattle.cmd_words.specs.Watched.{read_universes}
use Rattle.cmd_words.proofs.arguments.read_universes.Given as goal

abbrev pub invariant-loop-text : goal.invariant-loop-text
invariant-loop-text l = (length l.list ≤ l.text-index)
    × (read_universes (map (λ text. text.now) (take l.text-index l.texts)) ≡ Ok l.list)
    × All (λ u. (1 ≤ u) × (u ≤ 63999)) l.list
