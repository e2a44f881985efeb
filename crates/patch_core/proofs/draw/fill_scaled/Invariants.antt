use Rattle.patch_core.proofs.Terms.{◌≡◌, ℕ, ◌+◌, ◌<◌, get_or, slot_of}
use Rattle.patch_core.proofs.draw.fill_scaled.Given as goal

-- the slots so far are those of their dimmers
abbrev pub invariant-loop-place : goal.invariant-loop-place
invariant-loop-place l = (s : ℕ) → s < l.place
    → get_or l.out s 0 ≡ slot_of (get_or l.own s 0) l.grand (get_or l.bytes (l.first + s) 0)
