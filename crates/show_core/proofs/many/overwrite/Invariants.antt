use Rattle.show_core.proofs.Terms.{ℕ, List, take, with_entries, IsTableOf}
use Rattle.show_core.proofs.many.overwrite.Given as goal

abbrev pub invariant-loop-entry : goal.invariant-loop-entry
invariant-loop-entry g l =
    (entries : List (ℕ × g.row.V.Denot)) → IsTableOf l.fn.table entries
    → IsTableOf l.table (with_entries g.V.Kept.stays entries (take l.entry-index l.new))
