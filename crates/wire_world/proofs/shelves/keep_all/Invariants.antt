use Rattle.std.proofs.Common.{◌≡◌, ◌+◌, ◌++◌, ℕ, List, map, take}
use Rattle.std.specs.Vec.Iter.{DrainKeeps, drain_items}
use Rattle.wire_world.specs.Sends.{row_send, sent_to}
use Rattle.wire_world.proofs.Terms.{IsRest, gone_of, shelf_packets}
use Rattle.wire_world.proofs.shelves.keep_all.Given as goal

abbrev pub invariant-loop-row : goal.invariant-loop-row
invariant-loop-row l = record {
  rest : (u : ℕ) (all : List (List ℕ))
      → IsRest (gone_of l.fn.shelves.items u) (shelf_packets l.fn.shelves.items u)
      (take (l.last + 1) all) → IsRest (gone_of l.shelves.items u) (shelf_packets l.shelves.items u)
      (take (l.last + 1) (all ++ sent_to u (map row_send l.yielded)));
  gone : (u : ℕ) → gone_of l.shelves.items u ≡ gone_of l.fn.shelves.items u;
  so_far : l.yielded ++ drain_items l.row-iterator ≡ drain_items l.initial.row-iterator;
  keeps : DrainKeeps l.initial.row-iterator l.row-iterator;
}
