use Rattle.std.proofs.Common.{◌≡◌, take}
use Rattle.wire_world.proofs.report.replies_of.Given as goal

-- the replies so far
abbrev pub invariant-loop-reply : goal.invariant-loop-reply
invariant-loop-reply l = l.replies.items ≡ take l.reply-index l.compact
