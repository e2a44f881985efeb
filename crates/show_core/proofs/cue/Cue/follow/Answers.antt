use Rattle.show_core.proofs.InRange.{follow_fits}
use Rattle.show_core.proofs.cue.Cue.follow.Goals as goal

pub returns-clause-range : goal.returns-clause-range
returns-clause-range c = follow_fits c.self.inside.data.now.follow c.self.invariant.follow_in
