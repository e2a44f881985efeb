use Rattle.patch_core.proofs.Terms.{◌≡◌, ◌<◌, ◌≤◌, ℕ, max, get_or}
use Rattle.patch_core.proofs.greatest.max_rest.Given as goal

-- below the slot the greater of the two, before and after as it was
abbrev pub invariant-loop-slot : goal.invariant-loop-slot
invariant-loop-slot l = record {
  before : (s : ℕ) → s < l.fn.from → get_or l.a s 0 ≡ get_or l.fn.a s 0;
  greatest : (s : ℕ) → l.fn.from ≤ s → s < l.slot
      → get_or l.a s 0 ≡ max (get_or l.fn.a s 0) (get_or l.b s 0);
  rest : (s : ℕ) → l.slot ≤ s → get_or l.a s 0 ≡ get_or l.fn.a s 0;
}
