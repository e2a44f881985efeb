use Rattle.show_core.proofs.Terms.{◌≡◌, true, IsTrue, arith, common_steps, is_sub, opened_in, show_view}
use Rattle.show_core.proofs.InRange.{masters_in_range, opened_in_range}
use Rattle.show_core.proofs.show.Show.open_sub.Goals as goal

pub invariant_of-self-2 : goal.invariant_of-self-2
invariant_of-self-2 c =
    let number : is_sub c.args.n ≡ true = grind (arith, common_steps) in
    rw c.in_ok-open.ensures.opened
    (masters_in_range (show_view c.self.inside) c.self.invariant
    (opened_in c.self.inside.subs c.args.n) c.self.inside.groups
    (opened_in_range (λ k. IsTrue (is_sub k)) c.self.inside.subs c.args.n
    c.self.invariant.subs_in number) c.self.invariant.groups_in)
