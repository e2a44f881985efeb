use Rattle.wire_world.proofs.Shown.{unpatched_zero}
use Rattle.wire_world.proofs.laws.headline.Goals as goal

pub returns-clause-unpatched : goal.returns-clause-unpatched
returns-clause-unpatched c = unpatched_zero
