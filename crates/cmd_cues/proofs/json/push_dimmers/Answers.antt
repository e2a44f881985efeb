use Rattle.cmd_cues.proofs.Terms.{refl, dimmer_object}
use Rattle.cmd_cues.proofs.Items.{next_item}
use Rattle.cmd_cues.proofs.json.push_dimmers.Goals as goal

pub loop-place-preserved : goal.loop-place-preserved
loop-place-preserved c =
    next_item (dimmer_object) c.args.patch.now c.loop-place.place _
    c.loop-place-test.true _ _ _ _ _ c.loop-place.invariant c.in_ok-push_break.ensures
    c.in_ok-push_dimmer.ensures refl
