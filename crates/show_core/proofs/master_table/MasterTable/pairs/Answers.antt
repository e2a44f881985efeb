use Rattle.show_core.proofs.Terms.{IsTrue, is_channel}
use Rattle.std.specs.FinMap as map
use Rattle.show_core.proofs.Ranges.{entries_from_keys}
use Rattle.show_core.proofs.master_table.MasterTable.pairs.Goals as goal

pub returns-clause-range : goal.returns-clause-range
returns-clause-range c =
    rw c.pairs.ensures.entries
    (entries_from_keys (λ k. IsTrue (is_channel k))
    (map.entries c.in_ok-levels.levels.now) c.pairs.ensures.range)
