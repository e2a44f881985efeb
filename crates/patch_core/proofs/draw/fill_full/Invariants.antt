use Rattle.patch_core.proofs.Terms.{◌≡◌, ℕ, ◌<◌, get_or, slot_of}
use Rattle.patch_core.proofs.draw.fill_full.Given as goal

-- the slots so far are those of their channels
abbrev pub invariant-loop-place : goal.invariant-loop-place
invariant-loop-place l = (c : ℕ) → c < l.place
    → get_or l.slots c 0 ≡ slot_of (get_or l.levels c 0) 255 255
