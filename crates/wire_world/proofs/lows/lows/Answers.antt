use Rattle.std.proofs.Common.{rules, ℕ, ◌-◌, ◌<◌, length, arith}
use Rattle.wire_world.proofs.Terms.{slice_get-get_or}
use Rattle.wire_world.proofs.Wants.{lows_first, lows_more, lows_still}
use Rattle.wire_world.proofs.lows.lows.Goals as goal

pub loop-i-preserved-in-Deliver : goal.loop-i-preserved-in-Deliver
loop-i-preserved-in-Deliver c =
    let n : ℕ = c.loop-i.i - 1 in
    let within : n < length c.args.events.now =
    omega (arith, c.loop-i.auto.i, c.loop-i-test.true) in
    lows_more c.args.events.now c.loop-i.lows.items c.loop-i.least c.loop-i.i n _
    (omega (arith, c.loop-i-test.true)) (slice_get-get_or c.args.events.now n _ within)
    c.loop-i.invariant c.in-Deliver.receiver _ _ _ _ _ c.in-Deliver.is c.row_of-row.ensures.row
    within (omega (arith, c.row_of-row.ensures.within, c.loop-i.invariant.wide))
    (omega (arith, c.min.ensures)) (omega (arith, c.min.ensures))
    (λ low l m. omega (arith, c.min.ensures, l, m))

pub loop-i-preserved : goal.loop-i-preserved
loop-i-preserved c =
    lows_still c.args.events.now c.loop-i.lows.items c.loop-i.least c.loop-i.i (c.loop-i.i - 1) _
    (omega (arith, c.loop-i-test.true)) (slice_get-get_or c.args.events.now (c.loop-i.i - 1) _
    (omega (arith, c.loop-i.auto.i, c.loop-i-test.true))) c.loop-i.invariant
    c.in_default.not-Deliver

pub returns-clause-lows : goal.returns-clause-lows
returns-clause-lows c = λ i j e f.
    c.loop-i.invariant.lows_are i j e f (omega (arith, c.loop-i-test.false))

pub returns-clause-greatest : goal.returns-clause-greatest
returns-clause-greatest c = λ i r q u k low e.
    c.loop-i.invariant.greatest_are i r q u k low e (omega (arith, c.loop-i-test.false))

pub loop-i-init : goal.loop-i-init
loop-i-init c = lows_first c.args.events.now c.in_ok-lows.lows.items (search rules)
