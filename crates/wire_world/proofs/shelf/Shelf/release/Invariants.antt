use Rattle.std.proofs.Common.{◌≡◌, ◌≤◌, ℕ, List}
use Rattle.wire_world.proofs.Terms.{IsRest}
use Rattle.wire_world.proofs.shelf.Shelf.release.Given as goal

abbrev pub invariant-loop-gone : goal.invariant-loop-gone
invariant-loop-gone l = (l.self.gone ≡ l.gone) × (l.self.universe ≡ l.fn.self.universe)
    × ((k : ℕ) → l.fn.self.gone ≤ k → l.low ≤ k → l.gone ≤ k)
    × ((all : List (List ℕ)) → IsRest l.fn.self.gone l.fn.self.packets all
    → IsRest l.self.gone l.self.packets all)
