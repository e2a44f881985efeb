use Rattle.targets.proofs.Packets.{addressed_all}
use Rattle.targets.proofs.laws.addressed_law.Goals as goal

pub returns : goal.returns
returns c = addressed_all
