use Rattle.std.proofs.Common.{◌^◌, arith}
use Rattle.std.proofs.lemmas.Bool.{le-leb, le-ltb, lt-ltb}
use Rattle.wire_world.specs.Replies.{last_event_moment}
use Rattle.wire_world.specs.declared.reply.Skip.TheVariants.{Backwards, TooLarge}
use Rattle.wire_world.proofs.Terms.{Happening}
use Rattle.wire_world.proofs.Events.{step_done, step_skipped}
use Rattle.wire_world.proofs.step.step.Goals as goal

pub returns-clause-step : goal.returns-clause-step
returns-clause-step g c = λ w past same l are. let e : Happening = c.args.incident.event in
    step_done w past e c.in_ok-reply.reply c.args.last.now c.later.result
    (omega (arith, l, c.if-event-last.false)) (omega (arith, c.if-event-ge-MOMENTS.false)) l
    (c.in_ok-reply.ensures.reply w past same are.stand are.tell are.hear) c.later.ensures
    (c.in_ok-reply.ensures.stands w past are.stand) (c.in_ok-reply.ensures.tell are.tell)
    (c.in_ok-reply.ensures.hear w past same are.stand are.tell are.hear)

pub returns-then-event-last-clause-step : goal.returns-then-event-last-clause-step
returns-then-event-last-clause-step g c = λ w past same l are.
    let e : Happening = c.args.incident.event in
    step_skipped w past e Backwards c.args.last.now
    (rw (lt-ltb e.moment (last_event_moment past) (omega (arith, l, c.if-event-last.true)))) l are

pub returns-then-event-ge-MOMENTS-clause-step : goal.returns-then-event-ge-MOMENTS-clause-step
returns-then-event-ge-MOMENTS-clause-step g c = λ w past same l are.
    let e : Happening = c.args.incident.event in
    let after = le-ltb e.moment (last_event_moment past)
    (omega (arith, l, c.if-event-last.false)) in
    step_skipped w past e TooLarge c.args.last.now
    (rw (after, le-leb (2 ^ 48) e.moment (omega (arith, c.if-event-ge-MOMENTS.true)))) l are

pub happen-requires-clause-early : goal.happen-requires-clause-early
happen-requires-clause-early g c =
    λ r k e. omega (arith, c.requires.early r k e, c.if-event-last.false)
