use Rattle.show_core.proofs.Terms.{IsTrue, is_group}
use Rattle.std.specs.FinMap as map
use Rattle.show_core.proofs.Ranges.{entries_from_keys}
use Rattle.show_core.proofs.show.Show.groups.Goals as goal

pub returns-clause-range : goal.returns-clause-range
returns-clause-range c =
    rw c.entries.ensures.entries
    (entries_from_keys (λ n. IsTrue (is_group n)) (map.entries c.self.inside.groups)
    c.self.invariant.groups_in)
