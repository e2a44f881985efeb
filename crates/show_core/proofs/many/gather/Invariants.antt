use Rattle.show_core.proofs.Terms.{◌≡◌, ℕ, ◌<◌, IsTrue, List, length, All, filter, nat_lt, nat_cmp}
use Rattle.show_core.proofs.Terms.{IsTableOf}
use Rattle.std.specs.FinMap as map
use Rattle.show_core.proofs.many.gather.Given as goal

abbrev pub invariant-loop-key : goal.invariant-loop-key
invariant-loop-key g l =
    (entries : List (ℕ × g.row.V.Denot)) → IsTrue (map.is_sorted nat_cmp entries)
    → All (λ e. e.0 < length l.table) entries → IsTableOf l.table entries
    → l.all.items ≡ filter (λ e. nat_lt e.0 l.key) entries
