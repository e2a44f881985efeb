use Rattle.show_core.proofs.Terms.{IsTrue, is_group, LevelMap, show_view}
use Rattle.std.specs.FinMap as map
use Rattle.show_core.proofs.Ranges.{none_in}
use Rattle.show_core.proofs.InRange.{masters_in_range}
use Rattle.show_core.proofs.show.Show.clear_groups.Goals as goal

pub invariant_of-self : goal.invariant_of-self
invariant_of-self c =
    rw c.clear.ensures
    (masters_in_range (show_view c.self.inside) c.self.invariant c.self.inside.subs map.empty
    c.self.invariant.subs_in (none_in LevelMap (λ n. IsTrue (is_group n))))
