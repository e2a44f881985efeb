use Rattle.cmd_cues.proofs.Terms.{◌≡◌, ◌+◌, ◌-◌, ◌≤◌, length, take, suffix_len, is_edge}
use Rattle.cmd_cues.proofs.label_part.without_end.Given as goal

abbrev pub invariant-loop-end : goal.invariant-loop-end
invariant-loop-end l = record {
  within : l.end ≤ length l.bytes;
  passed : suffix_len is_edge (take l.end l.bytes) + (length l.bytes - l.end)
      ≡ suffix_len is_edge l.bytes;
}

abbrev pub decreases-loop-end : goal.decreases-loop-end
decreases-loop-end l = l.end
