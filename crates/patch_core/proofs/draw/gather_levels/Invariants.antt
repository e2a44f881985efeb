use Rattle.patch_core.proofs.Terms.{◌≡◌, ℕ, ◌+◌, ◌<◌, get_or}
use Rattle.patch_core.proofs.draw.gather_levels.Given as goal

-- the levels so far are those of their dimmers
abbrev pub invariant-loop-slot : goal.invariant-loop-slot
invariant-loop-slot l = (s : ℕ) → s < l.slot
    → get_or l.own s 0 ≡ get_or l.levels (get_or l.sources (l.first + s) 0) 0
