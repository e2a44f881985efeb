use Rattle.std.proofs.Common.{inl, inr, arith, refl, ◌++◌}
use Rattle.cmd_live.proofs.Living.{breaks_more, goes_more, goes_none, on_err}
use Rattle.cmd_live.proofs.night.Night.run.Goals as goal

pub loop-turn-init : goal.loop-turn-init
loop-turn-init g c = record {
  told_booth = λ tells. tells;
  told_link = λ tells. tells;
  goes = goes_none g.F.Fader.stands_for _ _ _ _ (λ tells. refl);
  turned = omega arith;
}

pub go_on-requires : goal.go_on-requires
go_on-requires g c =
    let real = c.requires.real in
    let goes = c.loop-turn.invariant.goes in
    record { real = (real.0, goes.since ++ real.1, goes.stands real.0 real.1 real.2) }

pub loop-turn-preserved : goal.loop-turn-preserved
loop-turn-preserved g c =
    let so_far = c.loop-turn.invariant in
    let next = c.in_ok-go_on.ensures in
    let all = goes_more g.F.Fader.stands_for _ _ _ _ _ _ _ _ so_far.goes next.goes.0
    (λ tells. (next.told_booth tells.0, next.told_link tells.1)) in
    record {
      told_booth = λ tells. so_far.told_booth (next.told_booth tells);
      told_link = λ tells. so_far.told_link (next.told_link tells);
      goes = all.0;
      turned = omega (arith, all.1, next.goes.1, so_far.turned);
    }

pub returns-in_err-go_on-clause-broke : goal.returns-in_err-go_on-clause-broke
returns-in_err-go_on-clause-broke g c =
    let next = c.in_err-go_on.ensures in
    on_err _ (inl (breaks_more g.F.Fader.stands_for _ _ _ _ _ _ _ _ c.loop-turn.invariant.goes
    next.broke (λ tells. (next.told_booth tells.0, next.told_link tells.1))))

pub returns-then-branch-clause-goes : goal.returns-then-branch-clause-goes
returns-then-branch-clause-goes g c =
    let next = c.in_ok-go_on.ensures in
    (goes_more g.F.Fader.stands_for _ _ _ _ _ _ _ _ c.loop-turn.invariant.goes next.goes.0
    (λ tells. (next.told_booth tells.0, next.told_link tells.1))).0

pub returns-then-branch-clause-over : goal.returns-then-branch-clause-over
returns-then-branch-clause-over g c =
    λ p happened stands. c.in_ok-go_on.ensures.over c.if-branch.true p happened stands

pub returns-clause-broke : goal.returns-clause-broke
returns-clause-broke g c = inr (record {
  goes = c.loop-turn.invariant.goes;
  turned = omega (arith, c.loop-turn-test.false, c.loop-turn.invariant.turned);
})
