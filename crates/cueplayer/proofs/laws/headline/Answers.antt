use Rattle.cueplayer.proofs.Showing.{unpatched_zero}
use Rattle.cueplayer.proofs.laws.headline.Goals as goal

pub returns-clause-unpatched : goal.returns-clause-unpatched
returns-clause-unpatched c = unpatched_zero
