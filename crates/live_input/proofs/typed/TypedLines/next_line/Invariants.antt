use Rattle.live_input.proofs.Terms.{◌-◌, ℕ, List, length, TypedStands, typed_kept}
use Rattle.live_input.proofs.typed.TypedLines.next_line.Given as goal

-- what was taken so far ended no line that says something
abbrev pub invariant-loop-self : goal.invariant-loop-self
invariant-loop-self l = (bytes : List ℕ) (taken : List (List ℕ))
    → TypedStands (typed_kept l.fn.self) bytes taken → TypedStands (typed_kept l.self) bytes taken

abbrev pub decreases-loop-self : goal.decreases-loop-self
decreases-loop-self l = length l.self.came.items - l.self.taken
