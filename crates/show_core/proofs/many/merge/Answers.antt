use Rattle.show_core.proofs.Terms.{None, arith, refl}
use Rattle.show_core.proofs.many.merge.Goals as goal

pub merge_by-requires-clause-entries : goal.merge_by-requires-clause-entries
merge_by-requires-clause-entries g c =
    rw (c.deref_mut.ensures.len, c.in_ok-resize.ensures.len) c.table_len.ensures.entries

pub merge_by-requires-clause-new : goal.merge_by-requires-clause-new
merge_by-requires-clause-new g c =
    rw (c.deref_mut.ensures.len, c.in_ok-resize.ensures.len) c.table_len.ensures.new

pub merge_by-requires-clause-none : goal.merge_by-requires-clause-none
merge_by-requires-clause-none g c = λ k lt.
    rw c.deref_mut.ensures.value (c.in_ok-resize.ensures.by_index.1 k None refl
    (omega (arith, c.new-table.ensures.len))
    (omega (arith, lt, c.deref_mut.ensures.len, c.in_ok-resize.ensures.len)))
