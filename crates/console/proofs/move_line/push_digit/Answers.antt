use Rattle.std.proofs.Common.{arith, length-append}
use Rattle.std.proofs.lemmas.Fmt.{length-decimal-le}
use Rattle.console.proofs.move_line.push_digit.Goals as goal

pub push_str-requires : goal.push_str-requires
push_str-requires c = rw c.format.ensures.text (omega (arith, length-decimal-le 1 c.args.digit))

pub returns-clause-room : goal.returns-clause-room
returns-clause-room c =
    rw (c.push_str.ensures.bytes, c.format.ensures.text) (simp length-append
    (omega (arith, length-decimal-le 1 c.args.digit)))
