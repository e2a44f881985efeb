use Rattle.std.proofs.Common.{◌≡◌, ◌≤◌, Ok, length, map, take}
use Rattle.cmd_words.specs.Target.{read_all}
use Rattle.cmd_words.proofs.arguments.read_targets.Given as goal

abbrev pub invariant-loop-text : goal.invariant-loop-text
invariant-loop-text l = (length l.targets ≤ l.text-index)
    × (read_all (map (λ text. text.now) (take l.text-index l.texts)) ≡ Ok l.targets)
