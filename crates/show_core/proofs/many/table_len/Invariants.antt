use Rattle.show_core.proofs.Terms.{◌<◌, ◌≤◌, take, All}
use Rattle.show_core.proofs.many.table_len.Given as goal

abbrev pub invariant-loop-entry : goal.invariant-loop-entry
invariant-loop-entry g l = record {
  own : All (λ e. e.0 < l.len) l.entries;
  so_far : All (λ e. e.0 < l.len) (take l.entry-index l.new);
  bound : l.len ≤ 65536;
}
