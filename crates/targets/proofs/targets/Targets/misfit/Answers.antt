use Rattle.std.proofs.Common.{◌∙◌, sym, ap, slice_get}
use Rattle.std.specs.Option.{option_or}
use Rattle.std.specs.List.{filter_map}
use Rattle.targets.specs.Misfit.{foreign_universe, lack}
use Rattle.targets.proofs.Firsts.{first_here, none_more}
use Rattle.targets.proofs.targets.Targets.misfit.Goals as goal

pub returns-in-Some : goal.returns-in-Some
returns-in-Some c =
    let test = foreign_universe c.args.universes.now in
    let lacks = slice_get (filter_map (lack c.args.self.now) c.args.universes.now) 0 in
    let found = first_here test c.as_slice-target-items.result.now c.loop-target.target-index _
    c.in-Some.misfit c.loop-target-test.true c.loop-target.invariant
    (sym c.foreign_universe.ensures ∙ c.in-Some.is) in
    sym (ap (λ xs. option_or (slice_get (filter_map test xs) 0) lacks)
    (sym c.as_slice-target-items.ensures.value) ∙ ap (λ o. option_or o lacks) found)

pub loop-target-preserved : goal.loop-target-preserved
loop-target-preserved c = none_more (foreign_universe c.args.universes.now)
    c.as_slice-target-items.result.now c.loop-target.target-index _ c.loop-target-test.true
    c.loop-target.invariant (sym c.foreign_universe.ensures ∙ c.in_default.is)

pub returns-in-Some-lack : goal.returns-in-Some-lack
returns-in-Some-lack c =
    let test = lack c.args.self.now in
    let found = first_here test c.args.universes.now c.loop-universe.universe-index 0
    c.in-Some-lack.misfit c.loop-universe-test.true c.loop-universe.invariant.1
    (sym c.lack.ensures ∙ c.in-Some-lack.is) in
    sym (ap (λ ys. option_or (slice_get ys 0) (slice_get (filter_map test c.args.universes.now) 0))
    c.loop-universe.invariant.0 ∙ found)

pub loop-universe-preserved : goal.loop-universe-preserved
loop-universe-preserved c = (
  c.loop-universe.invariant.0,
  none_more (lack c.args.self.now) c.args.universes.now c.loop-universe.universe-index 0
      c.loop-universe-test.true c.loop-universe.invariant.1
      (sym c.lack.ensures ∙ c.in_default-lack.is),
)
