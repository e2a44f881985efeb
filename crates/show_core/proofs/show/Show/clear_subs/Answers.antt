use Rattle.show_core.proofs.Terms.{IsTrue, is_sub, LevelMap, show_view}
use Rattle.std.specs.FinMap as map
use Rattle.show_core.proofs.Ranges.{none_in}
use Rattle.show_core.proofs.InRange.{masters_in_range}
use Rattle.show_core.proofs.show.Show.clear_subs.Goals as goal

pub invariant_of-self : goal.invariant_of-self
invariant_of-self c =
    rw c.clear.ensures
    (masters_in_range (show_view c.self.inside) c.self.invariant map.empty c.self.inside.groups
    (none_in LevelMap (λ n. IsTrue (is_sub n))) c.self.invariant.groups_in)
