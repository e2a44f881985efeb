use Rattle.patch_core.proofs.Terms.{ℕ, ◌∙◌, arith, dimmer_at}
use Rattle.patch_core.proofs.Redrawn.{dimmer_range, written, behind}
use Rattle.patch_core.proofs.slots.redraw_run.Goals as goal

pub overflow_sub-slots : goal.overflow_sub-slots
overflow_sub-slots c =
    let range = dimmer_range (dimmer_at c.args.dimmers.now c.loop-i.i)
    (c.requires.numbers c.loop-i.i (0, (0, 0)) (omega (arith, c.requires.within))) in
    omega (arith, range.0, c.from.ensures)

pub bounds-slots-from : goal.bounds-slots-from
bounds-slots-from c =
    let range = dimmer_range (dimmer_at c.args.dimmers.now c.loop-i.i)
    (c.requires.numbers c.loop-i.i (0, (0, 0)) (omega (arith, c.requires.within))) in
    omega (arith, range.1, c.requires.each_slot, c.from.ensures)

pub loop-i-preserved : goal.loop-i-preserved
loop-i-preserved c = λ want kept drawn dimmer is rest.
    let at : ℕ = dimmer_at c.args.dimmers.now c.loop-i.i in
    let range = dimmer_range at
    (c.requires.numbers c.loop-i.i (0, (0, 0)) (omega (arith, c.requires.within))) in
    rw c.from.ensures (written c.loop-i.slots c.slot.result at dimmer want
    (omega (arith, c.requires.each_slot)) range.0 range.1 (dimmer_range dimmer is).0
    (c.slot.ensures ∙ drawn c.loop-i.i c.loop-i.auto.i c.loop-i-test.true)
    (λ other. c.loop-i.invariant want kept drawn dimmer is
    (λ p low high. behind c.args.dimmers.now c.loop-i.i p c.args.run.end dimmer other rest low
    high)))

pub returns : goal.returns
returns c = λ want kept drawn dimmer is. c.loop-i.invariant want kept drawn dimmer is
    (λ p low high. absurd (omega arith))
