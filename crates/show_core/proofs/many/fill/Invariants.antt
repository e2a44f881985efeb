use Rattle.show_core.proofs.Terms.{take, IsTableOf}
use Rattle.show_core.proofs.many.fill.Given as goal

abbrev pub invariant-loop-entry : goal.invariant-loop-entry
invariant-loop-entry g l = IsTableOf l.table (take l.entry-index l.entries)
