use Rattle.show_core.proofs.Tables.{own_entries}
use Rattle.show_core.proofs.table.Table+u32+V.entries.Goals as goal

pub returns : goal.returns
returns g c = rw c.deref.ensures.value (own_entries _ c.self.view_is c.self.invariant)
