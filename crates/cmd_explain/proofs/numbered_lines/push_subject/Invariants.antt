use Rattle.cmd_explain.proofs.Terms.{◌≡◌, ◌++◌, codes, flat_map, take, decimal}
use Rattle.cmd_explain.proofs.numbered_lines.push_subject.Given as goal

abbrev pub invariant-loop-number : goal.invariant-loop-number
invariant-loop-number l =
    l.out.items
    ≡ l.initial.out.items
    ++ flat_map (λ n. codes " " ++ decimal n) (take l.number-index l.numbers)
