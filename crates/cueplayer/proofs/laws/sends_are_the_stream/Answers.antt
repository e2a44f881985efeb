use Rattle.cueplayer.proofs.Sends.{sends_addressed}
use Rattle.cueplayer.proofs.laws.sends_are_the_stream.Goals as goal

pub returns-clause-addressed : goal.returns-clause-addressed
returns-clause-addressed c = sends_addressed
