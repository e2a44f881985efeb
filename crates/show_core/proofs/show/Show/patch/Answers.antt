use Rattle.show_core.proofs.Terms.{IsTrue, is_dimmer}
use Rattle.std.specs.FinMap as map
use Rattle.show_core.proofs.Ranges.{entries_from_keys}
use Rattle.show_core.proofs.show.Show.patch.Goals as goal

pub returns-clause-range : goal.returns-clause-range
returns-clause-range c =
    rw c.entries.ensures.entries (λ k d lt. (
      entries_from_keys (λ n. IsTrue (is_dimmer n)) (map.entries c.self.inside.patch)
          c.self.invariant.dimmers_in k d lt,
      c.self.invariant.patch_channels k d lt,
    ))
