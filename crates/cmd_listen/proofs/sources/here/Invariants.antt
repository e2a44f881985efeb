use Rattle.cmd_listen.proofs.Terms.{◌≡◌, ◌≤◌, length, take, filter, is_here}
use Rattle.cmd_listen.proofs.sources.here.Given as goal

-- those so far
abbrev pub invariant-loop-source : goal.invariant-loop-source
invariant-loop-source l = record {
  are : l.left.items ≡ filter (is_here l.moment) (take l.source-index l.sources);
  few : length l.left.items ≤ l.source-index;
}
