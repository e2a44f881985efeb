use Rattle.std.proofs.Common.{◌%◌, ◌∙◌, false, true, refl}
use Rattle.sacn_source.specs.Stream.{Offer, live_packet}
use Rattle.sacn_source.proofs.LaneLemmas.{answer_at, due_as, paces_on, sent_packet}
use Rattle.sacn_source.proofs.lane.Lane.offer.Goals as goal

pub returns-then-take_offer-clause-stands : goal.returns-then-take_offer-clause-stands
returns-then-take_offer-clause-stands g c = rw (← c.self.view_is) (λ who offers s. record {
  paces = paces_on who _ offers _ _ s c.replace_slots-differs.ensures.differs _
      c.take_offer.ensures.state;
  packet = (
    c.packets_sent-place.result % 256,
    0,
    c.send.ensures.packet _ _ (c.replace_slots-differs.ensures.packet _ _ s.packet.2),
  );
})

pub returns-else-take_offer-clause-stands : goal.returns-else-take_offer-clause-stands
returns-else-take_offer-clause-stands g c = rw (← c.self.view_is) (λ who offers s. record {
  paces = paces_on who _ offers _ _ s c.replace_slots-differs.ensures.differs _
      c.take_offer.ensures.state;
  packet = (s.packet.0, s.packet.1, c.replace_slots-differs.ensures.packet _ _ s.packet.2);
})

pub returns-then-take_offer-clause-answer : goal.returns-then-take_offer-clause-answer
returns-then-take_offer-clause-answer g c = rw (← c.self.view_is) (λ who offers s.
    let o : Offer = record { moment = c.args.moment; frame = c.args.slots.now } in
    rw (due_as who _ offers o _ s c.replace_slots-differs.ensures.differs _ true
    c.take_offer.ensures.due c.if-take_offer.true)
    (answer_at c.packets_sent-place.result _ (live_packet o.frame) c.send.result
    (c.packets_sent-place.ensures.value ∙ s.paces.sent_is) c.send.ensures.answer))

pub returns-then-take_offer-clause-offered : goal.returns-then-take_offer-clause-offered
returns-then-take_offer-clause-offered g c = rw (← c.self.view_is) (λ who offers s tells.
    let o : Offer = record { moment = c.args.moment; frame = c.args.slots.now } in
    rw (due_as who _ offers o _ s c.replace_slots-differs.ensures.differs _ true
    c.take_offer.ensures.due c.if-take_offer.true)
    (sent_packet who c.self.inside.universe c.packets_sent-place.result _ (live_packet o.frame)
    c.send.new.packet c.send.result (g.L.Link.offered c.args.link.now)
    (g.L.Link.offered c.send.new.link) (c.packets_sent-place.ensures.value ∙ s.paces.sent_is)
    (c.send.ensures.packet _ _ (c.replace_slots-differs.ensures.packet _ _ s.packet.2))
    (c.send.ensures.offered tells)))

pub returns-else-take_offer-clause-answer : goal.returns-else-take_offer-clause-answer
returns-else-take_offer-clause-answer g c = rw (← c.self.view_is) (λ who offers s.
    let o : Offer = record { moment = c.args.moment; frame = c.args.slots.now } in
    rw (due_as who _ offers o _ s c.replace_slots-differs.ensures.differs _ false
    c.take_offer.ensures.due c.if-take_offer.false) refl)

pub returns-else-take_offer-clause-offered : goal.returns-else-take_offer-clause-offered
returns-else-take_offer-clause-offered g c = rw (← c.self.view_is) (λ who offers s tells.
    let o : Offer = record { moment = c.args.moment; frame = c.args.slots.now } in
    rw (due_as who _ offers o _ s c.replace_slots-differs.ensures.differs _ false
    c.take_offer.ensures.due c.if-take_offer.false) (refl, assumption))
