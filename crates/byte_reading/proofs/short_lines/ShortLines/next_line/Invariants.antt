use Rattle.byte_reading.specs.LinesLeft.{bytes_left, source}
use Rattle.byte_reading.proofs.ShortText.{Begun}
use Rattle.byte_reading.proofs.short_lines.ShortLines.next_line.Given as goal

-- what was read so far begins the line
abbrev pub invariant-loop : goal.invariant-loop
invariant-loop g l =
    let B = g.B.BlockSource in
    record {
      begun : Begun (bytes_left B.left l.initial.self) (bytes_left B.left l.self) l.line.bytes
          l.counter;
      same : B.may_fail (source l.self) → B.may_fail (source l.initial.self);
    }
