use Rattle.cmd_explain.proofs.Terms.{◌≡◌, ◌++◌, codes, flat_map, take, decimal}
use Rattle.cmd_explain.proofs.part_notes.push_channels.Given as goal

abbrev pub invariant-loop-channel : goal.invariant-loop-channel
invariant-loop-channel l =
    l.out.items
    ≡ l.initial.out.items
    ++ flat_map (λ n. codes " " ++ decimal n) (take l.channel-index l.channels)
