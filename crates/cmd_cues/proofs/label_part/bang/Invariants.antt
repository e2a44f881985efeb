use Rattle.cmd_cues.proofs.Terms.{◌≡◌, ◌+◌, ◌-◌, ◌≤◌, length, drop, position_or_len, is_bang}
use Rattle.cmd_cues.proofs.label_part.bang.Given as goal

abbrev pub invariant-loop-end : goal.invariant-loop-end
invariant-loop-end l = record {
  within : l.end ≤ length l.bytes;
  passed : l.end + position_or_len is_bang (drop l.end l.bytes) ≡ position_or_len is_bang l.bytes;
}

abbrev pub decreases-loop-end : goal.decreases-loop-end
decreases-loop-end l = length l.bytes - l.end
