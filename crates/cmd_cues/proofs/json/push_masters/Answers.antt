use Rattle.cmd_cues.proofs.Terms.{ap, master_object, label_by, record_in}
use Rattle.cmd_cues.proofs.Items.{next_item}
use Rattle.cmd_cues.proofs.json.push_masters.Goals as goal

pub loop-place-preserved : goal.loop-place-preserved
loop-place-preserved c =
    let value = master_object
    (λ n. label_by c.args.labels.now.lines.items (record_in c.args.of n)) in
    next_item value c.args.masters.now c.loop-place.place c.index-masters-place.result
    c.loop-place-test.true _ _ _ _ _ c.loop-place.invariant c.in_ok-push_break.ensures
    c.in_ok-push_master.ensures (ap value c.index-masters-place.is)
