use Rattle.patch_core.proofs.Terms.{◌≡◌, ◌≢◌, ℕ, ◌+◌, ◌<◌, ◌≤◌, get_or}
use Rattle.patch_core.proofs.draw.keep_patched.Given as goal

-- below the place 0 or as it was, from it on as it was
abbrev pub invariant-loop-place : goal.invariant-loop-place
invariant-loop-place l = record {
  dark : (s : ℕ) → s < l.place → get_or l.bytes (l.first + s) 0 ≡ 0 → get_or l.out s 0 ≡ 0;
  kept : (s : ℕ) → s < l.place → get_or l.bytes (l.first + s) 0 ≢ 0
      → get_or l.out s 0 ≡ get_or l.fn.out s 0;
  rest : (s : ℕ) → l.place ≤ s → get_or l.out s 0 ≡ get_or l.fn.out s 0;
}
