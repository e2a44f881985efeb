use Rattle.show_line.proofs.Terms.{arith, common_steps}
use Rattle.show_line.proofs.Lowest.{lower_both}
use Rattle.show_line.proofs.pairs.PairsIterator.next.Goals as goal

pub overflow_cast-result : goal.overflow_cast-result
overflow_cast-result c = grind (arith, common_steps, lower_both)

pub invariant_of-self-2 : goal.invariant_of-self-2
invariant_of-self-2 c = grind (arith, common_steps, lower_both)

pub returns-in_err-byte-clause-steps : goal.returns-in_err-byte-clause-steps
returns-in_err-byte-clause-steps c = grind (arith, common_steps)

pub returns-clause-steps : goal.returns-clause-steps
returns-clause-steps c = grind (arith, common_steps)

pub returns-then-self-len-clause-steps : goal.returns-then-self-len-clause-steps
returns-then-self-len-clause-steps c = grind (arith, common_steps)
