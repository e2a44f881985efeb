use Rattle.cmd_explain.proofs.Terms.{◌∙◌, ◌++◌, ap, arith, rules, skipped_line_below}
use Rattle.cmd_explain.proofs.Lines.{all_read, no_line, no_more, one_line}
use Rattle.cmd_explain.proofs.skipped.skipped_lines.Goals as goal

pub loop-line-init : goal.loop-line-init
loop-line-init c = no_line (search rules) (search rules, search rules)

pub returns-then-line-lines : goal.returns-then-line-lines
returns-then-line-lines c = (all_read c.loop-line.invariant c.in-Some.ensures.steps
    (omega (arith, c.if-line-lines.true))).1

pub loop-line-preserved : goal.loop-line-preserved
loop-line-preserved c =
    one_line c.loop-line.invariant c.in-Some.ensures.steps (omega (arith, c.if-line-lines.false))
    (λ lines holds number. (
      c.in_ok-above.ensures.heading lines holds.0,
      c.in_ok-above.ensures.text lines holds.0 number
          ∙ ap (λ out. out ++ skipped_line_below lines c.in-Some.line.bytes.now) holds.1,
    ))

pub returns : goal.returns
returns c = (no_more c.loop-line.invariant c.in-None.ensures.steps.0).1
