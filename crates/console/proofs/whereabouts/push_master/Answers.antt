use Rattle.std.proofs.Common.{arith, length-append}
use Rattle.std.proofs.lemmas.Fmt.{length-decimal-le}
use Rattle.console.proofs.whereabouts.push_master.Goals as goal

pub returns-clause-room : goal.returns-clause-room
returns-clause-room c =
    rw (
      c.push_str-6.ensures.bytes,
      c.push_str-5.ensures.bytes,
      c.push_str-4.ensures.bytes,
      c.push_str-3.ensures.bytes,
      c.push_str-2.ensures.bytes,
      c.push_str.ensures.bytes,
      c.format.ensures.text,
      c.format-2.ensures.text,
    ) (simp length-append
    (omega (
      arith,
      c.requires.number,
      c.ranges.byte.fits,
      length-decimal-le 3 c.args.n,
      length-decimal-le 3 c.args.byte,
    )))
