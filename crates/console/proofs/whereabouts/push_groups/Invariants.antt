use Rattle.std.proofs.Common.{◌≡◌, ◌≤◌, ◌+◌, ◌*◌, ◌-◌, ◌++◌, List, length, codes, flat_map}
use Rattle.std.specs.List.{range_with_len}
use Rattle.master_core.specs.Settings.{Setting, StandsFor, group_after}
use Rattle.console.specs.WhereLine.{master_text}
use Rattle.console.proofs.whereabouts.push_groups.Given as goal

-- the groups so far
abbrev pub invariant-loop-n : goal.invariant-loop-n
invariant-loop-n l = record {
  text : (settings : List Setting) → StandsFor l.masters settings → l.line.bytes
      ≡ l.fn.line.bytes ++ flat_map (λ n. master_text (codes "group") n (group_after settings n))
      (range_with_len 1 (l.n - 1));
  room : length l.line.bytes + 14 ≤ length l.fn.line.bytes + 14 * l.n;
}
