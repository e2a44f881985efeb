use Rattle.fade_core.proofs.Standing.{stands_full}
use Rattle.fade_core.proofs.step.StepFaderFader.levels.Goals as goal

pub returns-clause-full : goal.returns-clause-full
returns-clause-full c =
    rw c.deref.ensures.value (stands_full _ _ _ _ c.self.invariant.fading c.self.invariant.stands)
