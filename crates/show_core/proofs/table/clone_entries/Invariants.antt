use Rattle.show_core.proofs.Terms.{◌≡◌, take}
use Rattle.show_core.proofs.table.clone_entries.Given as goal

abbrev pub invariant-loop-entry : goal.invariant-loop-entry
invariant-loop-entry g l = l.copy.items ≡ take l.entry-index l.entries
