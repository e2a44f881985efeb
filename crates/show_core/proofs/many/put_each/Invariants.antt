use Rattle.show_core.proofs.Terms.{◌≡◌, IsTrue, ◌+◌, ◌≤◌, drop, count_by, vec_len, vec_capacity, nat_cmp}
use Rattle.show_core.proofs.Terms.{with_entries}
use Rattle.std.specs.FinMap as map
use Rattle.show_core.proofs.many.put_each.Given as goal

abbrev pub invariant-loop-entry : goal.invariant-loop-entry
invariant-loop-entry g l = record {
  sorted : IsTrue (map.is_sorted nat_cmp l.entries.items);
  so_far : with_entries g.V.Kept.stays l.entries.items (drop l.entry-index l.new)
      ≡ with_entries g.V.Kept.stays l.fn.entries.items l.new;
  room : vec_len l.entries + count_by (λ e. g.V.Kept.stays e.1) (drop l.entry-index l.new)
      ≤ vec_capacity l.entries;
}
