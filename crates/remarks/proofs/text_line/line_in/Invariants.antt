use Rattle.std.proofs.Common.{◌≡◌}
use Rattle.ascii_text.specs.LinesLeft.{lines_left}
use Rattle.remarks.specs.TextLines.{line_in}
use Rattle.remarks.proofs.LineSearch.{found}
use Rattle.remarks.proofs.text_line.line_in.Given as goal

abbrev pub invariant-loop-line : goal.invariant-loop-line
invariant-loop-line l = line_in l.number l.text ≡ found l.number (lines_left l.line-iterator)
