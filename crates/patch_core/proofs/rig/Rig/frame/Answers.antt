use Rattle.patch_core.proofs.Terms.{ℕ, ◌+◌, ◌*◌, refl, arith, nat_cmp, nat_cmp_total, length-set}
use Rattle.patch_core.proofs.Terms.{slot_of, get_is, listed_level, dimmer_slot}
use Rattle.patch_core.proofs.Frames.{frame_is, find_high, dark_at_first, slots_more}
use Rattle.patch_core.proofs.rig.Rig.frame.Goals as goal

pub loop-i-init : goal.loop-i-init
loop-i-init c = record {
  size = refl;
  so_far = dark_at_first (λ p. slot_of (listed_level c.args.levels.now p.0) c.args.grand p.1)
      c.as_slice-dimmers.result.now (512 * c.args.k + 1) c.first_from-from.result
      c.first_from-from.ensures.range c.first_from-from.ensures.below;
}

pub overflow_sub-dimmer : goal.overflow_sub-dimmer
overflow_sub-dimmer c = c.first_from-from.ensures.from_on c.loop-i.i _ (omega arith) (omega arith)

pub bounds-out-from : goal.bounds-out-from
bounds-out-from c = omega (
  arith,
  c.first_from-to.ensures.below c.loop-i.i (0, (0, 0)) (omega arith)
      (omega arith),
)

pub loop-i-preserved : goal.loop-i-preserved
loop-i-preserved c = record {
  size = simp length-set c.loop-i.invariant.size;
  so_far = slots_more (λ p. slot_of (listed_level c.args.levels.now p.0) c.args.grand p.1)
      c.as_slice-dimmers.result.now (512 * c.args.k + 1)
      (rw c.as_slice-dimmers.ensures.value c.self.invariant.sorted) c.loop-i.out
      c.loop-i.invariant.size c.loop-i.i _ c.from-in-loop-i.result c.slot.result (omega arith)
      (c.first_from-from.ensures.from_on c.loop-i.i _ (omega arith) (omega arith))
      c.from-in-loop-i.ensures (bounds-out-from c)
      (rw c.from.ensures at c.slot.ensures) c.loop-i.invariant.so_far;
}

pub returns : goal.returns
returns c =
    let first : ℕ = 512 * c.args.k + 1 in
    frame_is (dimmer_slot c.args.self.now.patch (listed_level c.args.levels.now) c.args.grand)
    first 512 c.loop-i.out c.loop-i.invariant.size (λ s lt.
    rw (
      ← c.self.view_is,
      get_is nat_cmp nat_cmp_total c.self.inside.dimmers.items c.self.invariant.sorted (first + s),
      ← c.as_slice-dimmers.ensures.value,
      ← find_high c.as_slice-dimmers.result.now (first + s) (first + 512) c.loop-i.i
          (λ j d le lt. c.first_from-to.ensures.from_on j d (omega arith) lt) (omega arith),
    ) (c.loop-i.invariant.so_far s lt))
