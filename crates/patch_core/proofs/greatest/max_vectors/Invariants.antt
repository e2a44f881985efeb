use Rattle.patch_core.proofs.Terms.{◌≡◌, ◌<◌, ◌≤◌, ◌*◌, ℕ, max, get_or}
use Rattle.patch_core.proofs.greatest.max_vectors.Given as goal

-- in the vectors so far the greater of the two, from them on as it was
abbrev pub invariant-loop-vector : goal.invariant-loop-vector
invariant-loop-vector l = record {
  greatest : (s : ℕ) → s < l.vector * 32
      → get_or l.a s 0 ≡ max (get_or l.fn.a s 0) (get_or l.b s 0);
  rest : (s : ℕ) → l.vector * 32 ≤ s → get_or l.a s 0 ≡ get_or l.fn.a s 0;
}
