use Rattle.live_input.proofs.Nights.{waits_last}
use Rattle.live_input.proofs.laws.waits_come_last.Goals as goal

pub returns : goal.returns
returns c = waits_last
