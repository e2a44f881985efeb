use Rattle.std.proofs.Common.{sym, ◌∙◌}
use Rattle.network_tables.proofs.tree.TreeLine.read.Goals as goal

pub returns-in-Err : goal.returns-in-Err
returns-in-Err c = (
  sym c.is_own_line.ensures ∙ c.if-is_own_line.false,
  λ _ address is. c.in-Err.ensures address (rw c.field.ensures is),
)
