use Rattle.std.proofs.Common.{ap, sym, ◌∙◌, refl, slice_get}
use Rattle.std.proofs.lemmas.Result.{on_err_weaker}
use Rattle.desk_core.specs.Played.{order}
use Rattle.wire_world.specs.Stands.{order_reply}
use Rattle.wire_world.proofs.Terms.{scaled_Fits, result_err, slice_get-get_or, console_at, acts}
use Rattle.wire_world.proofs.Terms.{LinkTells}
use Rattle.wire_world.proofs.Events.{tell_set, err_of, stand_call, here, told}
use Rattle.wire_world.proofs.Wants.{spans_set}
use Rattle.wire_world.proofs.steps.order_at.Goals as goal

pub returns : goal.returns
returns g c =
    let k = c.args.console in
    let at = ap (slice_get c.args.stages.now) (sym c.from-i.ensures)
    ∙ slice_get-get_or c.args.stages.now _ c.index-stages-i.result c.if-i-stages.false in
    record {
      tell = λ all. tell_set LinkTells c.args.stages.now _ c.order.new.self
          (c.order.ensures.still_tells (all _ _ at)) all;
      spans = rw c.from-i.ensures (spans_set c.args.stages.now k _ c.order.new.self at
          c.order.ensures.gone c.order.ensures.last);
      reply = λ w past all. rw (here all k _ at) (c.order_reply.ensures ∙ ap order_reply
          (c.order.ensures.answer (console_at w k) (acts w k past) (all.stand k _ at))
          ∙ told order_reply tt _);
      stands = λ w past all. rw c.from-i.ensures (
          stand_call all k _ at c.order.new.self (record { moment = c.args.moment; what = _ })
          (order c.args.instruction) c.order.result (λ j. refl)
          (λ d h s. ap result_err (c.order.ensures.answer d h s) ∙ err_of _ _)
          c.order.ensures.stands
          (on_err_weaker c.order.result (λ same d h s. rw same s) c.order.ensures.unchanged));
    }

pub offset_bounds-stages-i : goal.offset_bounds-stages-i
offset_bounds-stages-i g c = search scaled_Fits
