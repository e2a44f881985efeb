use Rattle.show_core.proofs.Tables.{own_entries}
use Rattle.show_core.proofs.table.Table+u16+V.entries.Goals as goal

pub returns-clause-entries : goal.returns-clause-entries
returns-clause-entries g c =
    rw c.deref.ensures.value (own_entries _ c.self.view_is c.self.invariant)
