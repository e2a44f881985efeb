-- What came of a rehearsal.
use Rattle.std.specs.Prelude.{◌≡◌, ℕ, List}
use Rattle.wire_world.specs.declared.happening.Happening.{Happening}
use Rattle.wire_world.specs.declared.reply.Reply.{Reply}
use Rattle.wire_world.specs.World.{World}
use Rattle.wire_world.specs.Replies.{AreReplies, events_done, last_slots}

-- the replies to the events, and the slots of the receivers after them
pub record RehearsalReport : Type 0 where
  pub replies : List Reply
  pub last : List (List ℕ)

-- this came of these events in this world: the reply to each of them, and the slots of each
-- receiver after those that were not skipped
pub record IsReportOf (w : World) (events : List Happening) (report : RehearsalReport)
    : Type 0 where
  pub replies : AreReplies w events report.replies
  pub last : report.last ≡ last_slots w (events_done w events)
