use Rattle.cmd_play.proofs.Terms.{refl, refusal, order_at}
use Rattle.cmd_play.proofs.Carrying.{accepted, refused, performed_quiet, performed_tick}
use Rattle.cmd_play.proofs.performance.answer_call.Goals as goal

pub returns-in-Ok-clause-stands : goal.returns-in-Ok-clause-stands
returns-in-Ok-clause-stands g c = λ p h s.
    let e = accepted (refusal p.show h (order_at c.args.moment c.in-Order.instruction)) _ tt
    c.order.result c.in-Ok.is (c.order.ensures.answer p h s) in
    rw (c.in-Order.is, e) (c.in-Ok.ensures.stands p h s)

pub returns-in-Err-clause-stands : goal.returns-in-Err-clause-stands
returns-in-Err-clause-stands g c = λ p h s.
    let e = refused (refusal p.show h (order_at c.args.moment c.in-Order.instruction)) _ tt
    c.order.result c.in-Err.is (c.order.ensures.answer p h s) in
    rw (c.in-Order.is, e, c.in-Err.ensures.unchanged) s

pub returns-in-Ok-clause-performed : goal.returns-in-Ok-clause-performed
returns-in-Ok-clause-performed g c = λ p h s tells.
    let e = accepted (refusal p.show h (order_at c.args.moment c.in-Order.instruction)) _ tt
    c.order.result c.in-Ok.is (c.order.ensures.answer p h s) in
    rw c.in-Order.is (performed_quiet p h _ _ _ _ _ _ e refl refl refl)

pub returns-in-Err-clause-performed : goal.returns-in-Err-clause-performed
returns-in-Err-clause-performed g c = λ p h s tells.
    let e = refused (refusal p.show h (order_at c.args.moment c.in-Order.instruction)) _ tt
    c.order.result c.in-Err.is (c.order.ensures.answer p h s) in
    rw c.in-Order.is (performed_quiet p h _ _ _ _ _ _ e refl refl refl)

pub returns-in-Ok-tick-clause-stands : goal.returns-in-Ok-tick-clause-stands
returns-in-Ok-tick-clause-stands g c = λ p h s.
    rw (c.in-Tick.is, (c.in-Ok-tick.ensures.answer p h s).0) (c.in-Ok-tick.ensures.stands p h s)

pub returns-in-Err-tick-clause-stands : goal.returns-in-Err-tick-clause-stands
returns-in-Err-tick-clause-stands g c = λ p h s.
    rw (c.in-Tick.is, c.in-Err-tick.ensures.answer p h s, c.in-Err-tick.ensures.unchanged) s

pub returns-in-Ok-tick-clause-performed : goal.returns-in-Ok-tick-clause-performed
returns-in-Ok-tick-clause-performed g c = λ p h s tells.
    let a = c.in-Ok-tick.ensures.answer p h s in
    rw c.in-Tick.is (performed_tick p h c.args.moment _ _ _ _ a.0 a.1
    (c.in-Ok-tick.ensures.offered p h s tells))

pub returns-in-Err-tick-clause-performed : goal.returns-in-Err-tick-clause-performed
returns-in-Err-tick-clause-performed g c = λ p h s tells.
    let e = c.in-Err-tick.ensures.answer p h s in
    rw c.in-Tick.is
    (performed_quiet p h _ _ _ _ _ _ e refl (c.in-Err-tick.ensures.quiet tells) refl)
