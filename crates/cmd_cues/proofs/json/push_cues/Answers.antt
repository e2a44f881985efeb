use Rattle.cmd_cues.proofs.Terms.{refl, cue_object, label_by}
use Rattle.cmd_cues.proofs.Items.{next_item}
use Rattle.cmd_cues.proofs.json.push_cues.Goals as goal

pub loop-place-preserved : goal.loop-place-preserved
loop-place-preserved c =
    next_item (cue_object (label_by c.args.labels.now.lines.items)) c.args.cues.now
    c.loop-place.place _ c.loop-place-test.true _ _ _ _ _ c.loop-place.invariant
    c.in_ok-push_break.ensures c.in_ok-push_cue.ensures refl
