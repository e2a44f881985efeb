use Rattle.cmd_cues.proofs.Terms.{◌≡◌, ◌+◌, ◌-◌, ◌≤◌, length, drop, prefix_len, is_edge}
use Rattle.cmd_cues.proofs.label_part.without_front.Given as goal

abbrev pub invariant-loop-start : goal.invariant-loop-start
invariant-loop-start l = record {
  within : l.start ≤ length l.bytes;
  passed : l.start + prefix_len is_edge (drop l.start l.bytes) ≡ prefix_len is_edge l.bytes;
}

abbrev pub decreases-loop-start : goal.decreases-loop-start
decreases-loop-start l = length l.bytes - l.start
