use Rattle.cmd_live.proofs.Followings.{takes_up}
use Rattle.cmd_live.proofs.laws.spare_law.Goals as goal

pub returns : goal.returns
returns c = takes_up
