use Rattle.master_core.proofs.Terms.{IsTrue, sym, subst, arith, is_sub, is_group, masters_view}
use Rattle.master_core.proofs.Terms.{StandsFor, sub_after, group_after}
use Rattle.master_core.proofs.Greatest.{highest_is}
use Rattle.master_core.proofs.masters.Masters.merged.Goals as goal

pub returns-clause-level : goal.returns-clause-level
returns-clause-level c = λ settings stands.
    let own : StandsFor (masters_view c.self.inside) settings =
    subst (λ m. StandsFor m settings) (sym c.self.view_is) stands in
    let sub = highest_is (λ n. IsTrue (is_sub n)) c.args.show.now.subs c.subs.result.now
    c.subs.ensures.entries c.subs.ensures.range c.self.inside.subs (sub_after settings)
    c.args.channel own.subs_are in
    let group = highest_is (λ n. IsTrue (is_group n)) c.args.show.now.groups c.groups.result.now
    c.groups.ensures.entries c.groups.ensures.range c.self.inside.groups (group_after settings)
    c.args.channel own.groups_are in
    omega (arith, sub, group)
