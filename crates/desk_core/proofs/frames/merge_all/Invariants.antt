use Rattle.desk_core.proofs.Terms.{◌≡◌, ◌<◌, ◌≤◌, ℕ, get_or, max}
use Rattle.desk_core.proofs.frames.merge_all.Given as goal

-- the levels so far are merged, and in their range
abbrev pub invariant-loop-place : goal.invariant-loop-place
invariant-loop-place l = record {
  merged : (k : ℕ) → k < l.place → get_or l.levels k 0 ≡ max (get_or l.playing k 0) (get_or
      l.floors k 0);
  full : (k : ℕ) → k < l.place → get_or l.levels k 0 ≤ 65025;
}
