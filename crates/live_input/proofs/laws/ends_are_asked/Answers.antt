use Rattle.live_input.proofs.Nights.{ends_asked}
use Rattle.live_input.proofs.laws.ends_are_asked.Goals as goal

pub returns : goal.returns
returns c = ends_asked
