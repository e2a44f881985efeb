use Rattle.show_core.proofs.Terms.{◌≡◌, true, IsTrue, arith, common_steps, is_group, opened_in}
use Rattle.show_core.proofs.Terms.{show_view}
use Rattle.show_core.proofs.InRange.{masters_in_range, opened_in_range}
use Rattle.show_core.proofs.show.Show.open_group.Goals as goal

pub invariant_of-self-2 : goal.invariant_of-self-2
invariant_of-self-2 c =
    let number : is_group c.args.n ≡ true = grind (arith, common_steps) in
    rw c.in_ok-open.ensures.opened
    (masters_in_range (show_view c.self.inside) c.self.invariant c.self.inside.subs
    (opened_in c.self.inside.groups c.args.n)
    c.self.invariant.subs_in
    (opened_in_range (λ k. IsTrue (is_group k)) c.self.inside.groups c.args.n
    c.self.invariant.groups_in number))
