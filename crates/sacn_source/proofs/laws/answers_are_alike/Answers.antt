use Rattle.sacn_source.proofs.LaneLemmas.{alike}
use Rattle.sacn_source.proofs.laws.answers_are_alike.Goals as goal

pub returns : goal.returns
returns c = alike
