use Rattle.patch_core.proofs.Terms.{◌≡◌, ℕ, ◌+◌, ◌<◌, get_or, take, option_map_or, nat_cmp, find}
use Rattle.patch_core.proofs.Terms.{slot_of}
use Rattle.patch_core.proofs.sources.write_sources.Given as goal

-- each dimmer has its source and its byte in the part of the patch that is done
abbrev pub invariant-loop-dimmer : goal.invariant-loop-dimmer
invariant-loop-dimmer l = record {
  in_range : (p : ℕ) → get_or l.sources p 0 < 4096;
  slots : (p : ℕ) → p < 8192 → (level : ℕ → ℕ) (grand : ℕ)
      → slot_of (level (get_or l.sources p 0 + 1)) grand (get_or l.bytes p 0)
      ≡ option_map_or (λ e. slot_of (level e.0) grand e.1)
      (find nat_cmp (p + 1) (take l.dimmer-index l.dimmers)) 0;
}
