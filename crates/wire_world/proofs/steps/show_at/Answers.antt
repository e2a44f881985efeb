use Rattle.std.proofs.Common.{ap, ◌∙◌}
use Rattle.wire_world.specs.declared.reply.Reply.TheVariants as reply
use Rattle.wire_world.proofs.Terms.{accepted_by}
use Rattle.wire_world.proofs.Events.{there, at_number}
use Rattle.wire_world.proofs.steps.show_at.Goals as goal

pub slots-requires : goal.slots-requires
slots-requires c = c.requires c.args.receiver c.index-receivers-r.result
    (at_number c.args.receivers.now _ _ _ c.from-r.ensures c.if-r-receivers.false
    c.index-receivers-r.is)

pub returns : goal.returns
returns c = λ w past all.
    let at = at_number c.args.receivers.now _ _ _ c.from-r.ensures c.if-r-receivers.false
    c.index-receivers-r.is in
    rw (there all c.args.receiver c.index-receivers-r.result at)
    (ap reply.Shown (c.in_ok-slots.ensures.ok
    ∙ c.slots.ensures (accepted_by w c.args.receiver past)
    (all.stand c.args.receiver c.index-receivers-r.result at)))
