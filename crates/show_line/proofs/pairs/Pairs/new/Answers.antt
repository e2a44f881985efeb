use Rattle.show_line.proofs.Terms.{arith, common_steps}
use Rattle.show_line.proofs.Lowest.{lower_both}
use Rattle.show_line.proofs.pairs.Pairs.new.Goals as goal

pub invariant_of-result : goal.invariant_of-result
invariant_of-result c = grind (arith, common_steps, lower_both)

pub returns-in-None : goal.returns-in-None
returns-in-None c = grind (arith, common_steps, lower_both)
