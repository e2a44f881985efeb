use Rattle.std.proofs.Common.{refl, arith, sym, ap}
use Rattle.std.specs.Option.{is_some}
use Rattle.wire_world.proofs.Linked.{rest_popped}
use Rattle.wire_world.proofs.shelf.Shelf.release.Goals as goal

pub loop-gone-preserved : goal.loop-gone-preserved
loop-gone-preserved c = (
  refl,
  c.loop-gone.invariant.1,
  λ k a b. omega (arith, c.loop-gone-test.true, b),
  λ all r. rest_popped (λ packet. packet.items) c.loop-gone.gone c.pop_front.result
      c.loop-gone.self.packets c.pop_front.new.self all c.pop_front.ensures.packets
      (ap is_some c.in-Some.is) (rw (sym c.loop-gone.invariant.0) (c.loop-gone.invariant.3 all r)),
)
