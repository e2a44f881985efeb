use Rattle.cmd_rehearse.specs.Texts.{event_lines}
use Rattle.cmd_rehearse.proofs.Printing.{Printing, lines_left}
use Rattle.cmd_rehearse.proofs.lines.print_replies.Given as goal

abbrev pub invariant-loop-number : goal.invariant-loop-number
invariant-loop-number g l = record {
  told : g.W.Output.tells l.out → g.W.Output.tells l.fn.out;
  printing : Printing (event_lines l.numbers l.replies)
      (lines_left l.number-iterator)
      (g.W.Output.tells l.out) (g.W.Output.tape l.fn.out) (g.W.Output.tape l.out);
}
