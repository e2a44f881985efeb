use Rattle.patch_core.proofs.Terms.{◌≡◌, ℕ, ◌+◌, ◌<◌, get_or, length}
use Rattle.patch_core.proofs.draw.eight_slots.Given as goal

-- the slots so far are those of their channels
abbrev pub invariant-loop-place : goal.invariant-loop-place
invariant-loop-place l = record {
  size : length l.eight ≡ 8;
  slots : (s : ℕ) → s < l.place
      → get_or l.eight s 0 ≡ get_or l.slots (get_or l.sources (l.first + s) 0) 0;
}
