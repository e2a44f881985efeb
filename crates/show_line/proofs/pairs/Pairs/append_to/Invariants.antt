use Rattle.show_line.proofs.Terms.{◌≡◌, ◌++◌, ◌≤◌, [], length, take}
use Rattle.show_line.proofs.pairs.Pairs.append_to.Given as goal

-- the list has what it had, and behind it the pairs so far
abbrev pub invariant-loop-pair : goal.invariant-loop-pair
invariant-loop-pair l = record {
  kept : l.list.items ++ l.pair-iterator ≡ l.fn.list.items ++ l.fn.self;
  none : l.fn.self ≡ [] → l.pair-iterator ≡ [];
  longer : length l.fn.list.items ≤ length l.list.items;
  front : take (length l.fn.list.items) l.list.items ≡ l.fn.list.items;
}
