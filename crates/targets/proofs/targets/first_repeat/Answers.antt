use Rattle.std.proofs.Common.{false, sym, true, ◌∙◌}
use Rattle.targets.proofs.Firsts.{repeated-at}
use Rattle.targets.proofs.targets.first_repeat.Goals as goal

pub loop-place-preserved : goal.loop-place-preserved
loop-place-preserved c = repeated-at c.args.addresses.now c.loop-place.place _
    c.loop-place-test.true c.loop-place.invariant false
    (sym c.has_address.ensures ∙ c.if-has_address.false)

pub returns-then-has_address : goal.returns-then-has_address
returns-then-has_address c = sym (repeated-at c.args.addresses.now c.loop-place.place _
    c.loop-place-test.true c.loop-place.invariant true
    (sym c.has_address.ensures ∙ c.if-has_address.true))
