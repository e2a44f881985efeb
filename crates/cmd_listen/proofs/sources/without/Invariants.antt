use Rattle.cmd_listen.proofs.Terms.{◌≡◌, ◌≤◌, length, not, take, filter, is_of}
use Rattle.cmd_listen.proofs.sources.without.Given as goal

-- those so far
abbrev pub invariant-loop-source : goal.invariant-loop-source
invariant-loop-source l = record {
  are : l.left.items ≡ filter (λ s. not (is_of l.cid s)) (take l.source-index l.sources);
  few : length l.left.items ≤ l.source-index;
}
