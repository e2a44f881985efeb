use Rattle.std.proofs.Common.{List}
use Rattle.ascii_text.specs.LinesLeft.{lines_left}
use Rattle.show_reader.specs.Text.{Words}
use Rattle.show_reader.proofs.Lines.{StandsBehind}
use Rattle.show_reader.proofs.read.read_lines.Given as goal

abbrev pub invariant-loop-line : goal.invariant-loop-line
invariant-loop-line l = (lines : List Words)
    × StandsBehind l.text lines (lines_left l.line-iterator) l.reader
