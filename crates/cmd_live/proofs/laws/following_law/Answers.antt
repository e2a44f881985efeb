use Rattle.cmd_live.proofs.Followings.{follows_all}
use Rattle.cmd_live.proofs.laws.following_law.Goals as goal

pub returns : goal.returns
returns c = follows_all
