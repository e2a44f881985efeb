use Rattle.show_core.proofs.Terms.{IsTrue, ℕ, is_channel}
use Rattle.show_core.proofs.Ranges.{none_in}
use Rattle.show_core.proofs.levels.Levels.new.Goals as goal

pub invariant_of-result : goal.invariant_of-result
invariant_of-result c = rw c.new.ensures (none_in ℕ (λ k. IsTrue (is_channel k)))
