use Rattle.playback_core.proofs.Terms.{IfSome_then, ◌∙◌, arith}
use Rattle.playback_core.proofs.Levels.{level_after-map}
use Rattle.playback_core.proofs.Look.{channel_range}
use Rattle.playback_core.proofs.playback.Playback.levels.Goals as goal

pub returns-clause-levels : goal.returns-clause-levels
returns-clause-levels g c = rw (← c.self.view_is) (IfSome_then c.levels.result
    c.levels.ensures.levels (λ levels h show moves stopped stands channel is.
    let range = channel_range channel is in
    h _ channel stands.fader range.0 (omega (arith, range.1, c.self.invariant))
    ∙ level_after-map show moves _ _))
