use Rattle.show_core.proofs.Terms.{◌≡◌, true, arith, list_all, common_steps, can_patch, show_view}
use Rattle.show_core.proofs.InRange.{patches_in_range}
use Rattle.show_core.proofs.show.Show.set_patches.Goals as goal

pub invariant_of-self-2 : goal.invariant_of-self-2
invariant_of-self-2 c =
    let can : list_all (λ e. can_patch e.0 e.1.0) c.args.entries.now ≡ true =
    grind (arith, common_steps) in
    rw c.in_ok-set_all.ensures.set
    (patches_in_range (show_view c.self.inside) c.self.invariant c.args.entries.now can)
