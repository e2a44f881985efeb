use Rattle.show_core.proofs.Terms.{◌≡◌, ◌<◌, ◌++◌, take, All, with_entries}
use Rattle.show_core.proofs.many.go_behind.Given as goal

abbrev pub invariant-loop-entry : goal.invariant-loop-entry
invariant-loop-entry g l = record {
  so_far : with_entries g.V.Kept.stays l.entries (take l.entry-index l.new)
      ≡ l.entries ++ take l.entry-index l.new;
  below : All (λ e. e.0 < l.least) (l.entries ++ take l.entry-index l.new);
}
