use Rattle.std.proofs.Common.{◌≡◌, ℕ, ◌+◌, ◌*◌, ◌<◌, ◌≤◌, get_or, length, take}
use Rattle.fade_core.proofs.Look.{byte_passed}
use Rattle.fade_core.proofs.target.aim.Given as goal

-- below the index the levels are 0
abbrev pub invariant-loop-level : goal.invariant-loop-level
invariant-loop-level l = (k : ℕ) → k < l.level-index → get_or l.to k 0 ≡ 0

-- each level is what a pass over the pairs so far leaves
abbrev pub invariant-loop-channel : goal.invariant-loop-channel
invariant-loop-channel l = record {
  levels : (k : ℕ) → k < length l.to
      → get_or l.to k 0 ≡ 255 * byte_passed (k + 1) 0 (take l.channel-index l.look);
  full : (k : ℕ) → get_or l.to k 0 ≤ 65025;
}
