use Rattle.cmd_explain.proofs.Terms.{arith, rules}
use Rattle.cmd_explain.proofs.Lines.{all_read, no_line, no_more, one_line}
use Rattle.cmd_explain.proofs.note_lines.LineNotes.read.Goals as goal

pub loop-line-init : goal.loop-line-init
loop-line-init c = no_line (search rules) (c.new-notes.ensures c.args.show.now)

pub returns-then-line-lines : goal.returns-then-line-lines
returns-then-line-lines c = all_read c.loop-line.invariant c.in-Some.ensures.steps
    (omega (arith, c.if-line-lines.true))

pub loop-line-preserved : goal.loop-line-preserved
loop-line-preserved c =
    one_line c.loop-line.invariant c.in-Some.ensures.steps (omega (arith, c.if-line-lines.false))
    (λ lines noted number. c.in_ok-take_line.ensures lines noted number)

pub returns : goal.returns
returns c = no_more c.loop-line.invariant c.in-None.ensures.steps.0
