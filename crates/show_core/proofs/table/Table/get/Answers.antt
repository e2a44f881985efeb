use Rattle.show_core.proofs.Tables.{none_seen}
use Rattle.show_core.proofs.table.Table.get.Goals as goal

pub returns-in-Err : goal.returns-in-Err
returns-in-Err g c =
    none_seen g.met.K.Key.compared _ c.self.view_is c.self.invariant
    (rw c.deref.ensures.value at c.in-Err.ensures.absent)
