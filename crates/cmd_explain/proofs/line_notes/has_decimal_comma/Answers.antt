use Rattle.cmd_explain.proofs.Terms.{◌≡◌, ◌∙◌, ◌-◌, ◌+◌, ◌≤◌, length, drop, arith, sym, length-drop}
use Rattle.cmd_explain.proofs.Commas.{comma_at, too_few}
use Rattle.cmd_explain.proofs.line_notes.has_decimal_comma.Goals as goal

pub loop-end-preserved : goal.loop-end-preserved
loop-end-preserved c =
    let line = c.args.line.now in
    let end = c.loop-end.end in
    let at = comma_at line (end - 2) (end - 1) end 0 (omega (arith, c.loop-end.auto.end))
    (omega (arith, c.loop-end.auto.end)) c.loop-end-test.true in
    let next : end + 1 - 2 ≡ end - 1 = omega (arith, c.loop-end.auto.end) in
    grind (
      arith,
      at,
      next,
      c.loop-end.invariant,
      c.if-first-eq33.false,
      c.is_decimal.ensures,
      c.if-is_decimal.false,
    )

pub returns : goal.returns
returns c =
    let line = c.args.line.now in
    let end = c.loop-end.end in
    let short : length (drop (end - 2) line) ≤ 2 =
    omega (arith, length-drop (end - 2) line, c.loop-end-test.false, c.loop-end.auto.end) in
    sym (c.loop-end.invariant ∙ too_few (drop (end - 2) line) short)
