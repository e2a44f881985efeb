-- Replies in little room.
-- Of use inside the crate: what its public calls answer is said without these.
use Rattle.wire_world.specs.declared.compact_reply.Kept.{Kept}
use Rattle.wire_world.specs.declared.compact_reply.Kept.TheVariants as kept
use Rattle.wire_world.specs.declared.reply.Reply.{Reply}
use Rattle.wire_world.specs.declared.reply.Reply.TheVariants as reply

-- the reply that is kept so
abbrev pub reply_kept : Kept → Reply
reply_kept kept.Done = reply.Done
reply_kept (kept.Refused refused) = reply.Refused refused
reply_kept (kept.Ticked ticked offers) = reply.Ticked ticked offers
reply_kept (kept.TickedMany ticked offers) = reply.Ticked ticked offers.value
reply_kept (kept.Taken taken) = reply.Taken taken
reply_kept (kept.Ignored ignored) = reply.Ignored ignored
reply_kept (kept.Shown slots) = reply.Shown slots.value
reply_kept (kept.Skipped skip) = reply.Skipped skip
