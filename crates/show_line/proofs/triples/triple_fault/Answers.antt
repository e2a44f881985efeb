use Rattle.show_line.proofs.Terms.{arith}
use Rattle.show_line.proofs.Lowest.{lower_assoc, lower_none}
use Rattle.show_line.proofs.triples.triple_fault.Goals as goal

pub loop-channel-preserved : goal.loop-channel-preserved
loop-channel-preserved c = grind (arith, lower_assoc, lower_none)
