use Rattle.cmd_cues.proofs.Terms.{◌≡◌, ◌+◌, ◌-◌, ◌≤◌, length, drop, position_or_len, is_separator}
use Rattle.cmd_cues.proofs.label_part.separator.Given as goal

abbrev pub invariant-loop-end : goal.invariant-loop-end
invariant-loop-end l = record {
  within : l.end ≤ length l.bytes;
  passed : l.end + position_or_len is_separator (drop l.end l.bytes)
      ≡ position_or_len is_separator l.bytes;
}

abbrev pub decreases-loop-end : goal.decreases-loop-end
decreases-loop-end l = length l.bytes - l.end
