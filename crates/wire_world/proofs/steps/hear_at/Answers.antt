use Rattle.std.proofs.Common.{◌∙◌}
use Rattle.wire_world.proofs.Terms.{slice_get-get_or}
use Rattle.wire_world.proofs.Events.{replied_is, hear_set}
use Rattle.wire_world.proofs.steps.hear_at.Goals as goal

pub returns-clause-reply : goal.returns-clause-reply
returns-clause-reply c = rw (← c.from-r.ensures) (λ w past all. c.datagram_reply.ensures
    ∙ replied_is all c.from-r.result _
    (slice_get-get_or c.args.receivers.now c.from-r.result c.index-receivers-r.result
    c.if-r-receivers.false) c.args.moment c.args.datagram.now c.take.result c.take.ensures.answer)

pub returns-clause-hear : goal.returns-clause-hear
returns-clause-hear c = rw (← c.from-r.ensures) (λ w past e all time hands.
    hear_set all c.from-r.result _
    (slice_get-get_or c.args.receivers.now c.from-r.result c.index-receivers-r.result
    c.if-r-receivers.false) c.take.new.self e c.args.moment c.args.datagram.now c.take.result
    c.take.ensures.answer c.take.ensures.accepted c.take.ensures.ignored c.take.ensures.universe
    time hands)
