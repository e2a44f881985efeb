use Rattle.playback_core.proofs.Look.{is_sorted-entries, channels_in_range}
use Rattle.playback_core.proofs.playback.Playback.start_move.Goals as goal

pub start-requires-clause-ascending : goal.start-requires-clause-ascending
start-requires-clause-ascending g c = rw c.pairs.ensures.entries (is_sorted-entries _)

pub start-requires-clause-in_range : goal.start-requires-clause-in_range
start-requires-clause-in_range g c = rw (c.pairs.ensures.entries, c.make_due.ensures.channels)
    (channels_in_range _ c.pairs.ensures.range)
