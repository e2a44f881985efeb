use Rattle.cmd_rehearse.specs.Texts.{end_lines}
use Rattle.cmd_rehearse.proofs.Printing.{Printing, ends_left}
use Rattle.cmd_rehearse.proofs.lines.print_ends.Given as goal

abbrev pub invariant-loop-receiver : goal.invariant-loop-receiver
invariant-loop-receiver g l = record {
  told : g.W.Output.tells l.out → g.W.Output.tells l.fn.out;
  printing : Printing (end_lines l.last) (ends_left l.receiver l.last)
      (g.W.Output.tells l.out) (g.W.Output.tape l.fn.out) (g.W.Output.tape l.out);
}
