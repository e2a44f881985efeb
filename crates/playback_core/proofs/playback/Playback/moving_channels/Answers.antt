use Rattle.playback_core.proofs.Terms.{IfSome_then, arith}
use Rattle.playback_core.proofs.Levels.{level_after-map}
use Rattle.playback_core.proofs.Look.{channel_range}
use Rattle.playback_core.proofs.playback.Playback.moving_channels.Goals as goal

pub returns-clause-others : goal.returns-clause-others
returns-clause-others g c = rw (← c.self.view_is) (IfSome_then c.moving_channels.result
    c.moving_channels.ensures.others
    (λ moving h show moves stopped stands channel moment is lacks le.
    let range = channel_range channel is in
    rw (← level_after-map show moves channel moment, ← level_after-map show moves _ _)
    (h _ channel moment stands.fader range.0 (omega (arith, range.1, c.self.invariant)) lacks le)))
