use Rattle.cmd_explain.proofs.Terms.{◌≡◌, ◌++◌, map, take, notes_on_cues, part_of}
use Rattle.cmd_explain.proofs.part_notes.push_part_notes.Given as goal

abbrev pub invariant-loop-cue : goal.invariant-loop-cue
invariant-loop-cue l =
    l.out.items ≡ l.fn.out.items ++ notes_on_cues (map part_of l.parts) (take l.cue-index l.cues)
