use Rattle.std.proofs.Common.{None, Some, Err, Ok, subst, sym, ap, ap₂, ◌∙◌}
use Rattle.std.proofs.lemmas.Result.{err_from_is_err_and}
use Rattle.sacn_packet.specs.Wire.{HasPacket}
use Rattle.sacn_packet.proofs.Found.{packet_ends}
use Rattle.sacn_receiver.specs.Inside.{receiver_view}
use Rattle.sacn_receiver.specs.Records.{entries}
use Rattle.sacn_receiver.proofs.Taking.{kept_apart, kept_stands, answer_by, heard_by}
use Rattle.sacn_receiver.proofs.receiver.Receiver.take.Goals as goal

pub returns-in_err-place-clause-answer : goal.returns-in_err-place-clause-answer
returns-in_err-place-clause-answer c =
    let p = err_from_is_err_and c.from_residual-in_err-place.result
    c.from_residual-in_err-place.ensures.1 in
    rw (← c.self.view_is) (λ h s. p.1 ∙ ap Err p.2
    ∙ sym (answer_by (receiver_view c.self.inside) h _ _ _ c.self.invariant s
    c.if-moment-self.false c.in_ok-packet.ensures.fault c.in_ok-packet.ensures.ok
    (Some c.in_err-place.field-0.0)
    (rw c.as_slice.ensures.value at c.in_err-place.ensures.refused)))

pub returns-in_err-place-clause-heard : goal.returns-in_err-place-clause-heard
returns-in_err-place-clause-heard c = rw (← c.self.view_is) (λ h s.
    heard_by (receiver_view c.self.inside) h _ _ _ c.self.invariant s c.if-moment-self.false
    c.in_ok-packet.ensures.fault c.in_ok-packet.ensures.ok (Some c.in_err-place.field-0.0)
    (rw c.as_slice.ensures.value at c.in_err-place.ensures.refused) (receiver_view c.self.inside) s)

pub returns-clause-answer : goal.returns-clause-answer
returns-clause-answer c =
    rw (← c.self.view_is) (λ h s.
    ap₂ (λ number ends. Ok (record { sequence = number; terminated = ends })) c.sequence.ensures
    c.is_termination.ensures
    ∙ sym (answer_by (receiver_view c.self.inside) h _ _ _ c.self.invariant s
    c.if-moment-self.false c.in_ok-packet.ensures.fault c.in_ok-packet.ensures.ok None
    (rw c.as_slice.ensures.value at c.in_ok-place.ensures.refused)))

pub returns-clause-accepted : goal.returns-clause-accepted
returns-clause-accepted c = rw (← c.self.view_is) (λ h s.
    kept_stands c.args.moment _ _ c.in_ok-packet.ensures.ok (receiver_view c.self.inside) _
    c.self.invariant (rw c.as_slice.ensures.value at c.in_ok-place.ensures.place)
    (entries c.keep_at.new.records.items) c.keep_at.ensures h c.if-moment-self.false s)

pub returns-clause-heard : goal.returns-clause-heard
returns-clause-heard c = rw (← c.self.view_is) (λ h s.
    heard_by (receiver_view c.self.inside) h _ _ _ c.self.invariant s c.if-moment-self.false
    c.in_ok-packet.ensures.fault c.in_ok-packet.ensures.ok None
    (rw c.as_slice.ensures.value at c.in_ok-place.ensures.refused) _
    (returns-clause-accepted c h (rw c.self.view_is at s)))

pub invariant_of-self : goal.invariant_of-self
invariant_of-self c =
    kept_apart c.args.moment _ _ c.in_ok-packet.ensures.ok (receiver_view c.self.inside) _
    c.self.invariant (rw c.as_slice.ensures.value at c.in_ok-place.ensures.place)
    (entries c.keep_at.new.records.items) c.keep_at.ensures

pub returns-clause-packet : goal.returns-clause-packet
returns-clause-packet c =
    subst (HasPacket _) (sym (packet_ends _ _ c.in_ok-packet.ensures.ok)) c.in_ok-packet.ensures.ok
