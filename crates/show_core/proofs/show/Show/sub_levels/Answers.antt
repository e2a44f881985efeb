use Rattle.show_core.proofs.Terms.{with_bytes, show_view}
use Rattle.show_core.proofs.Changes.{changed_listed}
use Rattle.show_core.proofs.InRange.{changed_sub_in_range}
use Rattle.show_core.proofs.show.Show.sub_levels.Goals as goal

pub invariant_of-self-2 : goal.invariant_of-self-2
invariant_of-self-2 c =
    rw (c.in_ok-set_levels.ensures.set, changed_listed c.self.inside.subs c.args.n c.args.pairs.now)
    (changed_sub_in_range (show_view c.self.inside) c.self.invariant c.args.n
    (λ levels. with_bytes levels c.args.pairs.now))
