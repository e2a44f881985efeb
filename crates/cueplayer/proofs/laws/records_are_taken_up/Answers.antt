use Rattle.cueplayer.proofs.Records.{taken_up}
use Rattle.cueplayer.proofs.laws.records_are_taken_up.Goals as goal

pub returns : goal.returns
returns c = taken_up
