use Rattle.show_core.proofs.Terms.{◌≡◌, true, arith, common_steps, can_patch, show_view}
use Rattle.show_core.proofs.InRange.{patched_in_range}
use Rattle.show_core.proofs.show.Show.set_patch.Goals as goal

pub invariant_of-self-2 : goal.invariant_of-self-2
invariant_of-self-2 c =
    let can : can_patch c.args.dimmer c.args.channel ≡ true = grind (arith, common_steps) in
    rw c.in_ok-set.ensures.set
    (patched_in_range
    (show_view c.self.inside) c.self.invariant c.args.dimmer c.args.channel c.args.byte can)
