use Rattle.patch_core.proofs.Terms.{◌≡◌, ℕ, ◌+◌, ◌*◌, ◌<◌, get_or}
use Rattle.patch_core.proofs.draw.gather_slots.Given as goal

-- the slots so far are those of their channels
abbrev pub invariant-loop-group : goal.invariant-loop-group
invariant-loop-group l = (s : ℕ) → s < 8 * l.group
    → get_or l.out s 0 ≡ get_or l.slots (get_or l.sources (l.first + s) 0) 0
