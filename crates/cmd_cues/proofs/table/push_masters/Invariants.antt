use Rattle.cmd_cues.proofs.Terms.{◌≡◌, ◌++◌, flat_map, take, master_table_line, label_by}
use Rattle.cmd_cues.proofs.Terms.{masters_head, record_in}
use Rattle.cmd_cues.proofs.table.push_masters.Given as goal

abbrev pub invariant-loop-number : goal.invariant-loop-number
invariant-loop-number l =
    l.text.items
    ≡ (l.fn.text.items ++ masters_head l.of)
    ++ flat_map (master_table_line (λ n. label_by l.labels.lines.items (record_in l.of n)))
    (take l.number-index l.masters)
