use Rattle.std.proofs.Common.{◌≤◌, ◌/◌, length, arith}
use Rattle.std.proofs.lemmas.Fmt.{length-decimal-le}
use Rattle.console.proofs.move_line.cue_number.Goals as goal

pub push_places-requires-clause-room : goal.push_places-requires-clause-room
push_places-requires-clause-room c =
    rw (c.push_str.ensures.bytes, c.new-text.ensures, c.format.ensures.text)
    (omega (arith, c.ranges.cue.fits, length-decimal-le 7 (c.args.cue / 1000)))

pub returns-clause-room : goal.returns-clause-room
returns-clause-room c =
    let whole : length c.push_str.new.self.bytes ≤ 7 =
    rw (c.push_str.ensures.bytes, c.new-text.ensures, c.format.ensures.text)
    (omega (arith, c.ranges.cue.fits, length-decimal-le 7 (c.args.cue / 1000))) in
    omega (arith, whole, c.push_places.ensures.room)
