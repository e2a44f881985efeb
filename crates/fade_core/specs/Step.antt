-- The fields of a step fader, seen as what it keeps.
-- Of use inside the crate: what its public calls answer is said without these.
use Rattle.fade_core.specs.declared.step.StepFader.TheInside.{Inside}
use Rattle.fade_core.specs.Fading.{Fading, IsFading}
use Rattle.fade_core.specs.Stepping.{LevelsStand}

-- the lists in place of the vectors
abbrev pub step_view : Inside → Fading
step_view f = record {
  from = f.from.items;
  to = f.to.items;
  up = f.up;
  down = f.down;
  began = f.began;
  latest = f.latest;
}

-- it keeps a fade, and the levels and the list stand for that
pub record IsStepFading (f : Inside) : Type 0 where
  pub fading : IsFading (step_view f)
  pub stands : LevelsStand (step_view f) f.levels.items f.moving.items f.count
