use Rattle.std.proofs.Common.{◌<◌, ◌-◌, length, ap, arith}
use Rattle.fade_core.proofs.Standing.{stands_full}
use Rattle.fade_core.proofs.step.StepFaderFader.level.Goals as goal

pub returns-clause-full : goal.returns-clause-full
returns-clause-full c =
    let full = stands_full _ _ _ _ c.self.invariant.fading c.self.invariant.stands in
    let channels = ap (λ f. length f.from) c.self.view_is in
    let within : c.from.result - 1 < length c.self.inside.levels.items =
    omega (
      arith,
      c.requires.from_one,
      c.requires.in_range,
      c.from.ensures,
      channels,
      c.self.invariant.stands.levels_length,
    ) in
    omega (
      arith,
      c.from-2.ensures,
      c.index.ensures,
      full (c.from.result - 1) c.index.result.now within,
    )
