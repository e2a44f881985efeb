use Rattle.std.proofs.Common.{◌≡◌, ◌-◌, ◌≤◌, ◌∙◌, sym, length, arith}
use Rattle.fade_core.specs.Fading.{level_at}
use Rattle.fade_core.specs.Step.{step_view}
use Rattle.fade_core.specs.Stepping.{IsUnlisted}
use Rattle.fade_core.proofs.Standing.{unlisted_front}
use Rattle.fade_core.proofs.step.StepFaderFader.moving_channels.Goals as goal

pub returns-clause-others : goal.returns-clause-others
returns-clause-others c = rw (← c.self.view_is)
    (λ starts channel moment stands from_one in_range lacks le.
    let s = c.self.invariant.stands in
    let latest = c.self.inside.latest in
    let room : c.self.inside.count ≤ length c.self.inside.moving.items =
    omega (arith, s.count_in, s.moving_length) in
    let unlisted : IsUnlisted c.self.inside.moving.items c.self.inside.count (channel - 1) =
    unlisted_front _ _ channel room from_one (rw c.deref.ensures.value at lacks) in
    let stays : level_at (step_view c.self.inside) (channel - 1) moment
    ≡ level_at (step_view c.self.inside) (channel - 1) latest =
    s.others_stay (channel - 1) (omega arith) unlisted moment le in
    sym (stands channel moment from_one in_range le) ∙ stays
    ∙ stands channel latest from_one in_range (omega arith))
