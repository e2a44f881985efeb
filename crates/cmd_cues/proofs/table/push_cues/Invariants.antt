use Rattle.cmd_cues.proofs.Terms.{◌≡◌, ◌++◌, flat_map, take, cue_table_line, label_by}
use Rattle.cmd_cues.proofs.table.push_cues.Given as goal

abbrev pub invariant-loop-cue : goal.invariant-loop-cue
invariant-loop-cue l =
    l.text.items
    ≡ l.fn.text.items
    ++ flat_map (cue_table_line (label_by l.labels.lines.items)) (take l.cue-index l.cues)
