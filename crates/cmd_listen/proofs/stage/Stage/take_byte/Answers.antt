use Rattle.cmd_listen.proofs.Terms.{◌+◌, ◌∙◌, arith, rules, common_steps, late, watch_after}
use Rattle.cmd_listen.proofs.Faults.{handed_on}
use Rattle.cmd_listen.proofs.Taking.{ended_here, ends_line, left_by, line_stands, line_told}
use Rattle.cmd_listen.proofs.stage.Stage.take_byte.Goals as goal

pub returns-clause-taken : goal.returns-clause-taken
returns-clause-taken g c = record {
  stands = λ us cut s.
      line_stands us cut c.args.byte c.as_slice.result.now c.args.self.now _
      c.if-byte-ne10.false c.as_slice.ensures.value s (omega arith) c.in_ok-take_line.ensures.fine
      (c.in_ok-take_line.ensures.stands (watch_after us cut.lines) s.watching_stands)
      c.clear.ensures
      (λ i. c.args.self.now.number + 1);
  told = λ tell us cut start s told.
      line_told us cut c.args.byte c.as_slice.result.now start _ _ c.if-byte-ne10.false
      (c.as_slice.ensures.value ∙ s.pending_is) told
      (c.in_ok-take_line.ensures.printed (watch_after us cut.lines) s.watching_stands tell);
  room = grind (arith, common_steps);
}

pub returns-in_err-take_line-clause-ended : goal.returns-in_err-take_line-clause-ended
returns-in_err-take_line-clause-ended g c =
    handed_on _ _ c.from_residual.ensures.1 (ended_here
    (λ us cut s. ends_line c.in_err-take_line.field-0.0 us cut c.args.byte c.as_slice.result.now
    c.args.self.now c.if-byte-ne10.false c.as_slice.ensures.value s (omega arith)
    c.in_err-take_line.ensures.ends)
    (λ tell us cut start s told. left_by c.in_err-take_line.field-0.0 us cut.lines start _ _ told
    (c.in_err-take_line.ensures.leaves tell)))

pub returns-then-self-clause-ended : goal.returns-then-self-clause-ended
returns-then-self-clause-ended g c =
    ended_here (λ us cut stands.
    let next = stands.number_is in (omega (arith, next), late (omega (arith, next)))) (search rules)

pub returns-then-is_full-clause-ended : goal.returns-then-is_full-clause-ended
returns-then-is_full-clause-ended g c = ended_here (search rules) (search rules)
