use Rattle.cmd_cues.proofs.Terms.{◌≡◌, ◌++◌, replicate}
use Rattle.cmd_cues.proofs.cell.push_spaces.Given as goal

abbrev pub invariant-loop-space : goal.invariant-loop-space
invariant-loop-space l = l.out.items ≡ l.fn.out.items ++ replicate l._space 32
