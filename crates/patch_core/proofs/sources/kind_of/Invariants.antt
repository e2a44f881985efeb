use Rattle.patch_core.proofs.Terms.{◌≡◌, ℕ, ◌+◌, ◌<◌, ◌⊎◌, true, get_or}
use Rattle.patch_core.proofs.sources.kind_of.Given as goal

-- what the bytes so far are
abbrev pub invariant-loop-slot : goal.invariant-loop-slot
invariant-loop-slot l = record {
  dark : l.dark ≡ true → (s : ℕ) → s < l.slot → get_or l.bytes (l.first + s) 0 ≡ 0;
  full : l.full ≡ true → (s : ℕ) → s < l.slot → get_or l.bytes (l.first + s) 0 ≡ 255;
  full_or_dark : l.full_or_dark ≡ true → (s : ℕ) → s < l.slot
      → (get_or l.bytes (l.first + s) 0 ≡ 0) ⊎ (get_or l.bytes (l.first + s) 0 ≡ 255);
}
