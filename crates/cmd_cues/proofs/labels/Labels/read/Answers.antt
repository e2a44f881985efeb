use Rattle.cmd_cues.proofs.Terms.{◌≡◌, [], all_read, ap, arith, last_label_by, no_line, no_more}
use Rattle.cmd_cues.proofs.Terms.{one_line, refl, rules}
use Rattle.cmd_cues.proofs.labels.Labels.read.Goals as goal

pub loop-line-init : goal.loop-line-init
loop-line-init c =
    let empty : c.new.result.items ≡ [] = search rules in
    no_line (search rules) (refl, λ r kind. ap (last_label_by r kind) empty)

pub returns-then-line-lines : goal.returns-then-line-lines
returns-then-line-lines c = (all_read c.loop-line.invariant c.in-Some.ensures.steps
    (omega (arith, c.if-line-lines.true))).1

pub loop-line-preserved : goal.loop-line-preserved
loop-line-preserved c =
    one_line c.loop-line.invariant c.in-Some.ensures.steps (omega (arith, c.if-line-lines.false))
    (λ lines holds number. (
      c.in_ok-owner.ensures.owner lines holds.0,
      c.in_ok-owner.ensures.labels lines holds.0 holds.1,
    ))

pub returns : goal.returns
returns c = (no_more c.loop-line.invariant c.in-None.ensures.steps.0).1
