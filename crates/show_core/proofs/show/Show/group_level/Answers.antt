use Rattle.std.specs.FinMap as map
use Rattle.show_core.proofs.Terms.{show_view}
use Rattle.show_core.proofs.InRange.{changed_group_in_range}
use Rattle.show_core.proofs.show.Show.group_level.Goals as goal

pub invariant_of-self-2 : goal.invariant_of-self-2
invariant_of-self-2 c =
    rw c.in_ok-set_level.ensures.set
    (changed_group_in_range (show_view c.self.inside) c.self.invariant c.args.n
    (λ levels. map.insert levels c.args.channel c.args.byte))
