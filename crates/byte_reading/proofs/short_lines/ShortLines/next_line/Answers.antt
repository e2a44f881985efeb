use Rattle.std.proofs.Common.{◌≡◌, ◌<◌, false, length, subst, arith, rules, tests}
use Rattle.std.proofs.lemmas.Bool.Decides.{nat_tests}
use Rattle.ascii_text.specs.Text.{is_newline}
use Rattle.byte_reading.specs.LinesLeft.{bytes_left}
use Rattle.byte_reading.specs.ShortLines.{GivesByte}
use Rattle.byte_reading.proofs.ShortText.{ends_line, ends_text, goes_on}
use Rattle.byte_reading.proofs.short_lines.ShortLines.next_line.Goals as goal

pub returns-else-is_empty-clause-some : goal.returns-else-is_empty-clause-some
returns-else-is_empty-clause-some g c =
    let left = bytes_left g.B.BlockSource.left in
    let none = subst (GivesByte (left c.loop.self) (left c.next_byte.new.self)) c.in_default-next.is
    c.in-Ok.ensures.byte in
    let long : 0 < length c.loop.line.bytes
    = grind (arith, nat_tests, c.is_empty.ensures, c.if-is_empty.false) in
    ends_text (left c.args.self.now) (left c.loop.self) (left c.next_byte.new.self)
    c.loop.line.bytes c.loop.counter c.loop.invariant.begun none long

pub returns-then-byte-eq10-clause-some : goal.returns-then-byte-eq10-clause-some
returns-then-byte-eq10-clause-some g c =
    let left = bytes_left g.B.BlockSource.left in
    let some = subst (GivesByte (left c.loop.self) (left c.next_byte.new.self)) c.in-Some.is
    c.in-Ok.ensures.byte in
    ends_line (left c.args.self.now) (left c.loop.self) (left c.next_byte.new.self)
    c.loop.line.bytes c.loop.counter c.in-Some.byte c.loop.invariant.begun some
    c.if-byte-eq10.true

pub loop-preserved : goal.loop-preserved
loop-preserved g c =
    let left = bytes_left g.B.BlockSource.left in
    let some = subst (GivesByte (left c.loop.self) (left c.next_byte.new.self)) c.in-Some.is
    c.in-Ok.ensures.byte in
    let inner : is_newline c.in-Some.byte ≡ false = search (rules, tests) in
    record {
      begun = goes_on (left c.args.self.now) (left c.loop.self) (left c.next_byte.new.self)
          c.loop.line.bytes c.push_shown.new.line.bytes c.loop.counter c.in-Some.byte
          c.loop.invariant.begun some inner c.push_shown.ensures;
      same = λ f. c.loop.invariant.same (c.next_byte.ensures.same f);
    }
