use Rattle.live_input.proofs.Fine.{lines_fine}
use Rattle.live_input.proofs.laws.lines_are_fine.Goals as goal

pub returns : goal.returns
returns c = lines_fine
