use Rattle.playback_core.proofs.Terms.{◌∙◌}
use Rattle.playback_core.proofs.Levels.{level_after-map}
use Rattle.playback_core.proofs.playback.Playback.level.Goals as goal

pub returns-clause-level : goal.returns-clause-level
returns-clause-level g c =
    rw (← c.self.view_is) (λ show moves stopped stands. c.level.ensures.level _ stands.fader
    ∙ level_after-map show moves _ _)
