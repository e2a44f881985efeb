use Rattle.std.proofs.Common.{◌∙◌, append_assoc}
use Rattle.wire_world.proofs.Linked.{sent_row}
use Rattle.wire_world.proofs.shelves.keep_all.Goals as goal

pub loop-row-preserved : goal.loop-row-preserved
loop-row-preserved c = let at = c.loop-row in
    record {
      rest = λ u all r.
          rw (← sent_row u at.yielded c.in-Some.row all) (c.in_ok-keep.ensures.rest u _
          (at.invariant.rest u all r));
      gone = λ u. c.in_ok-keep.ensures.gone u ∙ at.invariant.gone u;
      so_far = rw (append_assoc, ← c.in-Some.ensures.steps.0) at.invariant.so_far;
      keeps = let kept = c.in-Some.ensures.steps.2 in (
        kept.0 ∙ at.invariant.keeps.0,
        kept.1 ∙ at.invariant.keeps.1,
        kept.2 ∙ at.invariant.keeps.2,
      );
    }
