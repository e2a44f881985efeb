use Rattle.patch_core.proofs.Terms.{◌≡◌, ℕ, ◌+◌, ◌<◌, get_or, take, length, option_map_or, nat_cmp, find}
use Rattle.patch_core.proofs.Terms.{slot_of, listed_level}
use Rattle.patch_core.proofs.rig.Rig.frame.Given as goal

-- each slot is that of its dimmer in the part of the patch that is done
abbrev pub invariant-loop-i : goal.invariant-loop-i
invariant-loop-i l = record {
  size : length l.out ≡ 512;
  so_far : (s : ℕ) → s < 512 → get_or l.out s 0
      ≡ option_map_or (λ p. slot_of (listed_level l.levels p.0) l.grand p.1)
      (find nat_cmp (l.first + s) (take l.i l.dimmers)) 0;
}
