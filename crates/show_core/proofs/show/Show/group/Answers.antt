use Rattle.show_core.proofs.Terms.{IsTrue, is_group}
use Rattle.std.specs.FinMap as map
use Rattle.show_core.proofs.InRange.{found_key}
use Rattle.show_core.proofs.show.Show.group.Goals as goal

pub returns-clause-number : goal.returns-clause-number
returns-clause-number c =
    found_key (λ n. IsTrue (is_group n)) c.self.inside.groups c.args.n (λ pairs. pairs.now)
    map.entries c.pairs.result c.self.invariant.groups_in c.pairs.ensures.entries
