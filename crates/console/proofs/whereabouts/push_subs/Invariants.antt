use Rattle.std.proofs.Common.{◌≡◌, ◌≤◌, ◌+◌, ◌*◌, ◌-◌, ◌++◌, List, length, codes, flat_map}
use Rattle.std.specs.List.{range_with_len}
use Rattle.master_core.specs.Settings.{Setting, StandsFor, sub_after}
use Rattle.console.specs.WhereLine.{master_text}
use Rattle.console.proofs.whereabouts.push_subs.Given as goal

-- the submasters so far
abbrev pub invariant-loop-n : goal.invariant-loop-n
invariant-loop-n l = record {
  text : (settings : List Setting) → StandsFor l.masters settings → l.line.bytes
      ≡ l.fn.line.bytes ++ flat_map (λ n. master_text (codes "sub") n (sub_after settings n))
      (range_with_len 1 (l.n - 1));
  room : length l.line.bytes + 12 ≤ length l.fn.line.bytes + 12 * l.n;
}
