use Rattle.std.proofs.Common.{◌∙◌, add-one, sym}
use Rattle.desk_core.specs.Played.{ticks_since_end}
use Rattle.sacn_source.proofs.SenderLemmas.{earliest_is, ended_is}
use Rattle.console.proofs.Ticks.{ending_by, fewer_than_three, live_by, offered_before}
use Rattle.console.proofs.tick.offer.Goals as goal

pub offer-requires-clause-later : goal.offer-requires-clause-later
offer-requires-clause-later g c =
    let r = c.requires.real in
    let live = live_by (ticks_since_end r.1) (sym c.in-Live.is ∙ r.2.answer_is) in
    rw (earliest_is r.0.source c.args.sender.now c.args.universe _ _ r.3)
    (offered_before r.0 c.args.universe c.args.tick.moment r.1 r.2.accepted live)

pub offer-requires-clause-live : goal.offer-requires-clause-live
offer-requires-clause-live g c =
    let r = c.requires.real in
    let live = live_by (ticks_since_end r.1) (sym c.in-Live.is ∙ r.2.answer_is) in
    rw live at (ended_is r.0.source c.args.sender.now c.args.universe _ _ r.3)

pub terminate-requires-clause-fewer : goal.terminate-requires-clause-fewer
terminate-requires-clause-fewer g c =
    let r = c.requires.real in
    let e =
    ending_by (ticks_since_end r.1) c.in-Ending.field-0 (sym c.in-Ending.is ∙ r.2.answer_is) in
    rw (ended_is r.0.source c.args.sender.now c.args.universe _ _ r.3, e.1)
    (fewer_than_three r.0 c.args.tick.moment e.0 r.1 r.2.accepted e.1)

pub returns-in-Live-clause-stands : goal.returns-in-Live-clause-stands
returns-in-Live-clause-stands g c = λ p older tick had.
    let live = live_by (ticks_since_end older) (sym c.in-Live.is ∙ tick.answer_is) in
    rw (live, ← c.slots.ensures p.show p.base _ tick.desk_stands)
    (c.offer.ensures.stands p.source _ (rw live at had))

pub returns-in-Live-clause-offered : goal.returns-in-Live-clause-offered
returns-in-Live-clause-offered g c = λ p older tick had tells.
    let live = live_by (ticks_since_end older) (sym c.in-Live.is ∙ tick.answer_is) in
    rw (live, ← c.slots.ensures p.show p.base _ tick.desk_stands)
    (c.offer.ensures.offered p.source _ (rw live at had) tells)

pub returns-in-Ending-clause-stands : goal.returns-in-Ending-clause-stands
returns-in-Ending-clause-stands g c = λ p older tick had.
    let e =
    ending_by (ticks_since_end older) c.in-Ending.field-0
    (sym c.in-Ending.is ∙ tick.answer_is) in
    rw (e.1, add-one) (c.terminate.ensures.stands p.source _ e.0 (rw e.1 at had))

pub returns-in-Ending-clause-offered : goal.returns-in-Ending-clause-offered
returns-in-Ending-clause-offered g c = λ p older tick had tells.
    let e =
    ending_by (ticks_since_end older) c.in-Ending.field-0
    (sym c.in-Ending.is ∙ tick.answer_is) in
    rw e.1 (c.terminate.ensures.offered p.source _ e.0 (rw e.1 at had) tells)
