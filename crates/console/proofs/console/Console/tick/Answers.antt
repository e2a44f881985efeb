use Rattle.std.proofs.Common.{◌∙◌, sym}
use Rattle.std.proofs.lemmas.Result.{err_from_is_err_and}
use Rattle.desk_core.specs.Played.{refusal, tick_at}
use Rattle.console.proofs.Ticks.{refused_by, tick_stands}
use Rattle.console.proofs.console.Console.tick.Goals as goal

pub offer_all-offers-requires : goal.offer_all-offers-requires
offer_all-offers-requires g c =
    let r = c.requires.real in
    let t = tick_stands c.tick.new.self c.args.moment c.self.view_is c.in_ok-answer.was
    c.tick.ensures.answer c.in_ok-answer.ensures.stands r.2 in
    record { real = (r.0, r.1, t.0, t.1) }

pub returns-clause-answer : goal.returns-clause-answer
returns-clause-answer g c = λ p history stands.
    let t = tick_stands c.tick.new.self c.args.moment c.self.view_is c.in_ok-answer.was
    c.tick.ensures.answer c.in_ok-answer.ensures.stands stands in
    (t.0.accepted, t.0.answer_is)

pub returns-clause-stands : goal.returns-clause-stands
returns-clause-stands g c = λ p history stands.
    let t = tick_stands c.tick.new.self c.args.moment c.self.view_is c.in_ok-answer.was
    c.tick.ensures.answer c.in_ok-answer.ensures.stands stands in
    record {
      desk_stands = t.0.desk_stands;
      streams_stand = c.offer_all-offers.ensures.stands p history t.0 t.1;
    }

pub returns-clause-offered : goal.returns-clause-offered
returns-clause-offered g c = λ p history stands tells.
    let t = tick_stands c.tick.new.self c.args.moment c.self.view_is c.in_ok-answer.was
    c.tick.ensures.answer c.in_ok-answer.ensures.stands stands in
    c.offer_all-offers.ensures.offered p history t.0 t.1 tells

pub returns-in_err-answer-clause-answer : goal.returns-in_err-answer-clause-answer
returns-in_err-answer-clause-answer g c = rw (← c.self.view_is) (λ p history stands.
    let r = err_from_is_err_and c.from_residual.result c.from_residual.ensures.1 in
    rw (r.1, r.2) (refused_by (refusal p.show history (tick_at c.args.moment)) _ _
    (sym c.in_err-answer.was ∙ c.tick.ensures.answer p.show p.base history stands.desk_stands)))
