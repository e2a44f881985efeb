use Rattle.cmd_explain.proofs.Terms.{◌≡◌, ◌++◌, ◌==◌, flat_map, map, take, filter, part_of}
use Rattle.cmd_explain.proofs.Terms.{part_note, times_or}
use Rattle.cmd_explain.proofs.part_notes.push_cue_parts.Given as goal

abbrev pub invariant-loop-part : goal.invariant-loop-part
invariant-loop-part l =
    l.out.items
    ≡ l.fn.out.items
    ++ flat_map (λ p. part_note p (times_or p.times l.first) l.last)
    (filter (λ p. p.cue == l.cue) (map part_of (take l.part-index l.parts)))
