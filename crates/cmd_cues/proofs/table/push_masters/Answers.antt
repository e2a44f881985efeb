use Rattle.cmd_cues.proofs.Terms.{ap, label_by, record_in, master_table_line}
use Rattle.cmd_cues.proofs.Items.{next_line}
use Rattle.cmd_cues.proofs.table.push_masters.Goals as goal

pub loop-number-preserved : goal.loop-number-preserved
loop-number-preserved c =
    let line = master_table_line
    (λ n. label_by c.args.labels.now.lines.items (record_in c.args.of n)) in
    next_line line c.args.masters.now c.loop-number.number-index c.loop-number-item.result
    c.loop-number-test.true _ _ _ _ c.loop-number.invariant c.in_ok-push_master.ensures
    (ap line c.loop-number-item.is)
