use Rattle.desk_core.proofs.Terms.{arith, common_steps}
use Rattle.desk_core.proofs.frames.merge_some.Goals as goal

pub loop-channel-preserved : goal.loop-channel-preserved
loop-channel-preserved g c = grind (arith, common_steps)
