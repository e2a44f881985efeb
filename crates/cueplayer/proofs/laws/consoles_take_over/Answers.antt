use Rattle.cueplayer.proofs.TakingOver.{means_one, takes_over}
use Rattle.cueplayer.proofs.laws.consoles_take_over.Goals as goal

pub returns-clause-one : goal.returns-clause-one
returns-clause-one c = means_one

pub returns-clause-over : goal.returns-clause-over
returns-clause-over c = takes_over
