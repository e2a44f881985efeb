use Rattle.show_core.proofs.Terms.{show_view}
use Rattle.show_core.proofs.InRange.{no_patch_in_range}
use Rattle.show_core.proofs.show.Show.clear_patch.Goals as goal

pub invariant_of-self : goal.invariant_of-self
invariant_of-self c =
    rw c.clear.ensures (no_patch_in_range (show_view c.self.inside) c.self.invariant)
