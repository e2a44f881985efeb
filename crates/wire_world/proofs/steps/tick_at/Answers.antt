use Rattle.std.proofs.Common.{ap, sym, ◌∙◌, refl, slice_get}
use Rattle.desk_core.specs.Played.{tick}
use Rattle.wire_world.specs.Stands.{tick_reply}
use Rattle.wire_world.proofs.Terms.{scaled_Fits, result_err, slice_get-get_or, console_at, acts}
use Rattle.wire_world.proofs.Terms.{IfOk-weaker, LinkTells}
use Rattle.wire_world.proofs.Events.{absent, always, err_of, here, stand_call, tell_set, told}
use Rattle.wire_world.proofs.Wants.{spans_set}
use Rattle.wire_world.proofs.steps.tick_at.Goals as goal

pub tick-answer-requires : goal.tick-answer-requires
tick-answer-requires g c =
    let r = c.requires.real in
    let at = slice_get-get_or c.args.stages.now c.from-i.result c.index-stages-i.result
    c.if-i-stages.false in
    record {
      real = (
        console_at r.0 c.from-i.result,
        acts r.0 c.from-i.result r.1,
        r.2.stand c.from-i.result _ at,
      );
    }

pub returns : goal.returns
returns g c =
    let k = c.args.console in
    let at = ap (slice_get c.args.stages.now) (sym c.from-i.ensures)
    ∙ slice_get-get_or c.args.stages.now _ c.index-stages-i.result c.if-i-stages.false in
    let tells = sym c.if-is_full.ensures in
    record {
      tell = always c.tick_reply.result _ (λ _ all.
          tell_set LinkTells c.args.stages.now _ c.tick-answer.new.self tells all);
      spans = always c.tick_reply.result _ (λ _. rw c.from-i.ensures
          (spans_set c.args.stages.now k _ c.tick-answer.new.self at
          (c.tick-answer.ensures.gone tells) c.tick-answer.ensures.last));
      reply = IfOk-weaker c.tick_reply.result _ _ (λ reply is w past all. rw (here all k _ at)
          (is ∙ ap tick_reply
          (c.tick-answer.ensures.answer (console_at w k) (acts w k past) (all.stand k _ at) tells)
          ∙ told tick_reply _ _)) c.tick_reply.ensures;
      stands = always c.tick_reply.result _ (λ _ w past all. rw c.from-i.ensures
          (stand_call all k _ at c.tick-answer.new.self
          (record { moment = c.args.moment; what = _ }) tick c.tick-answer.result (λ j. refl)
          (λ d h s. ap result_err (c.tick-answer.ensures.answer d h s tells) ∙ err_of _ _)
          c.tick-answer.ensures.stands c.tick-answer.ensures.kept));
    }

pub returns-then-i-stages : goal.returns-then-i-stages
returns-then-i-stages g c =
    let none = absent c.args.stages.now c.args.console _ c.from-i.ensures c.if-i-stages.true in
    record {
      tell = λ all. all;
      spans = λ i u. refl;
      reply = λ w past all. rw (none w all.each) refl;
      stands = λ w past all. rw (none w all.each) all;
    }

pub offset_bounds-stages-i : goal.offset_bounds-stages-i
offset_bounds-stages-i g c = search scaled_Fits
