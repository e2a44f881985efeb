use Rattle.show_core.proofs.Terms.{refl}
use Rattle.show_core.proofs.Entries.{below_end}
use Rattle.show_core.proofs.many.end_of.Goals as goal

pub returns-in-Some-clause-end : goal.returns-in-Some-clause-end
returns-in-Some-clause-end g c =
    rw c.behind.ensures.next
    (below_end c.args.entries.now c.in-Some.last.now.0 c.requires
    (λ d. rw (← c.in-Some.ensures.item.3.1 d) refl))
