-- The reader stands behind the lines so far, and the text's lines are those and the ones that are
-- left.
use Rattle.std.proofs.Common.{◌≡◌, ◌+◌, true, false, [], ◌∷◌, refl, sym, ◌∙◌, arith}
use Rattle.std.proofs.lemmas.Grind.{common_steps}
use Rattle.ascii_text.specs.Text.{lines_of, words_of, numbered_from}
use Rattle.show_reader.specs.Text.{ends}
use Rattle.show_reader.proofs.Lines.{nothing_read, numbered, same_words, go_on, refused_at}
use Rattle.show_reader.proofs.read.read_lines.Goals as goal
use Rattle.show_reader.proofs.read.read_lines.Goals.{in-None, in-Some+in-Ok-true}

pub loop-line-init : goal.loop-line-init
loop-line-init c =
    let left = lines_of c.args.text.now in
    let given : c.into_iter-line-iterator.result ≡ numbered_from 1 left
    = grind (arith, common_steps) in
    let new = c.new.ensures in (
      [],
      record {
        reads = nothing_read c.new.result new.cues new.subs new.groups new.patch new.drafted
            new.settled;
        numbered = rw given (numbered 1 left);
        all = rw (given, ← same_words 1 left) refl;
      },
    )

pub take-requires-clause-next : goal.take-requires-clause-next
take-requires-clause-next c = (rw c.in-Some.ensures.steps at c.loop-line.invariant.1).numbered.0

pub loop-line-preserved : goal.loop-line-preserved
loop-line-preserved c =
    let before = c.loop-line.invariant in
    let next = rw c.in-Some.ensures.steps at before.1 in
    let l = words_of c.in-Some.line.bytes.now in
    let on : ends l ≡ false = sym c.in-Ok-false.ensures.last ∙ c.in-Ok-false.field-0-test in
    let more = c.in-Ok-false.ensures.more before.0 before.1.reads in
    let counted : c.loop-line.reader.lines + 1 ≡ c.take.new.self.lines
    = omega (arith, more.number, before.1.reads.number) in (
      l ∷ before.0,
      record {
        reads = more;
        numbered = rw (← counted) next.numbered.1;
        all = go_on next false on;
      },
    )

pub returns-in-Err-clause-fault : goal.returns-in-Err-clause-fault
returns-in-Err-clause-fault c =
    let before = c.loop-line.invariant in
    (refused_at (rw c.in-Some.ensures.steps at before.1) c.in-Err.fault c.requires
    (c.in-Err.ensures.fault before.0 before.1.reads)).0

pub returns-in-Err-clause-sure : goal.returns-in-Err-clause-sure
returns-in-Err-clause-sure c =
    let before = c.loop-line.invariant in
    (refused_at (rw c.in-Some.ensures.steps at before.1) c.in-Err.fault c.requires
    (c.in-Err.ensures.fault before.0 before.1.reads)).1

pub returns-clause-ok : goal.returns-clause-ok
returns-clause-ok c =
    let before = c.loop-line.invariant in
    elim c.match-next.branch [
      | in-None w ↦
          rw (rw w.in-None.ensures.steps.0 at before.1.all, w.reader-is) before.1.reads
      | in-Some+in-Ok-true w ↦
          let next = rw w.in-Some.ensures.steps at before.1 in
          let end : ends (words_of w.in-Some.line.bytes.now) ≡ true
          = sym w.in-Ok-true.ensures.last ∙ w.in-Ok-true.field-0-test in
          rw (go_on next true end, w.reader-is)
          (w.in-Ok-true.ensures.more before.0 before.1.reads)
    ]
