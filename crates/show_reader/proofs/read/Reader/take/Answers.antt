-- One line: what was read of it is what it says, and where the show refuses that, it is the line's
-- fault.
use mir.Val.{bool_byte}
use Rattle.std.proofs.Common.{◌≡◌, Bool, true, false, cond, refl, arith}
use Rattle.ascii_text.specs.Text.{words_of}
use Rattle.show_line.specs.Said.{desk_limits}
use Rattle.show_reader.specs.Meaning.{is_skipped}
use Rattle.show_reader.specs.Text.{statement_below}
use Rattle.show_reader.proofs.Lines.{reading_is, owner_here, line_read, line_ends, quiet_line}
use Rattle.show_reader.proofs.read.Reader.take.Goals as goal

pub apply-requires-clause-owned : goal.apply-requires-clause-owned
apply-requires-clause-owned c =
    let l = words_of c.args.line.bytes.now in
    let r = c.args.self.now in
    let lines = c.requires.reads.0 in
    let h = c.requires.reads.1 in
    rw (reading_is lines l r c.in-Some.reading h c.in-Some.ensures.means).0 (owner_here lines l r h)

-- the number of a test: 1 where it holds
byte_of : (b : Bool) → bool_byte b ≡ cond b 1 0
byte_of true = refl
byte_of false = refl

pub returns-clause-more : goal.returns-clause-more
returns-clause-more c = λ lines h.
    let l = words_of c.args.line.bytes.now in
    let r = c.args.self.now in
    let is = reading_is lines l r c.in-Some.reading h c.in-Some.ensures.means in
    let applied = c.in_default-apply.ensures in
    let one : c.from.result ≡ cond (is_skipped (statement_below desk_limits lines l)) 1 0 =
    rw (c.from.ensures, c.is_skipped-skipped.ensures, is.0) (byte_of _) in
    rw (c.owner_below-owner.ensures, is.1, c.requires.next, is.0)
    (line_read lines l r h c.apply.new.draft (rw is.0 at c.in-Some.ensures.sound)
    (rw is.0 at applied.fine) applied.drafted (rw is.0 at applied.ok) (rw is.0 at applied.settled)
    _ (omega (arith, one)))

pub returns-in_default-clause-more : goal.returns-in_default-clause-more
returns-in_default-clause-more c = λ lines h.
    quiet_line lines (words_of c.args.line.bytes.now) c.args.self.now c.args.line.number h
    c.requires.next c.in_default.ensures.means

pub returns-in-Err-clause-fault : goal.returns-in-Err-clause-fault
returns-in-Err-clause-fault c = λ lines h.
    let l = words_of c.args.line.bytes.now in
    let r = c.args.self.now in
    let is = (reading_is lines l r c.in-Some.reading h c.in-Some.ensures.means).0 in
    rw (c.at.ensures, c.requires.next) (line_ends lines l r h (rw is at c.in-Some.ensures.sound)
    c.in-Err.refusal (rw is at c.in-Err.ensures.err))
