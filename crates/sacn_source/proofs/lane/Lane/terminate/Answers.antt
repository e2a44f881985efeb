use Rattle.std.proofs.Common.{◌%◌, ◌∙◌}
use Rattle.sacn_source.specs.Stream.{last_packet}
use Rattle.sacn_source.proofs.LaneLemmas.{sent_packet, takes_termination}
use Rattle.sacn_source.proofs.lane.Lane.terminate.Goals as goal

pub returns-clause-stands : goal.returns-clause-stands
returns-clause-stands g c = rw (← c.self.view_is) (λ who offers n s. record {
  paces = rw c.take_termination.ensures (takes_termination _ offers n s.paces);
  packet = (
    c.packets_sent-place.result % 256,
    0x40,
    c.send.ensures.packet _ _ (c.refill.ensures.packet _ _ s.packet.2),
  );
})

pub returns-clause-offered : goal.returns-clause-offered
returns-clause-offered g c = rw (← c.self.view_is) (λ who offers n s tells.
    sent_packet who c.self.inside.universe c.packets_sent-place.result _ last_packet
    c.send.new.packet
    c.send.result (g.L.Link.offered c.args.link.now) (g.L.Link.offered c.send.new.link)
    (c.packets_sent-place.ensures.value ∙ s.paces.sent_is)
    (c.send.ensures.packet _ _ (c.refill.ensures.packet _ _ s.packet.2))
    (c.send.ensures.offered tells))
