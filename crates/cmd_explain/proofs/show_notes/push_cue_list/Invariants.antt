use Rattle.cmd_explain.proofs.Terms.{◌≡◌, ◌++◌, codes, flat_map, take, decimal_text}
use Rattle.cmd_explain.proofs.show_notes.push_cue_list.Given as goal

abbrev pub invariant-loop-n : goal.invariant-loop-n
invariant-loop-n l =
    l.out.items
    ≡ l.initial.out.items ++ flat_map (λ n. codes " " ++ decimal_text n) (take l.n-index l.cues)
