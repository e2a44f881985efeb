use Rattle.cmd_play.proofs.Terms.{◌∙◌, arith, rules, common_steps, emission, history_of, late}
use Rattle.cmd_play.proofs.Faults.{handed_on}
use Rattle.cmd_play.proofs.Running.{left_behind, ran_ended}
use Rattle.cmd_play.proofs.Taking.{ended_here}
use Rattle.cmd_play.proofs.stage.Stage.take_byte.Goals as goal

pub returns-clause-taken : goal.returns-clause-taken
returns-clause-taken g c = record {
  stands = grind (arith, common_steps);
  ran = λ tell p cut before stands ran.
      ran_ended p cut c.args.byte c.as_slice.result.now before
      (emission (g.L.Link.offered c.args.link.now) (g.W.Output.tape c.args.out.now))
      (emission (g.L.Link.offered c.take_line.new.link) (g.W.Output.tape c.take_line.new.out))
      c.args.self.now.lost c.in_ok-lost.lost c.if-byte-ne10.false
      (c.as_slice.ensures.value ∙ stands.pending_is) ran
      (c.in_ok-lost.ensures.carried_out p (history_of p.show cut.lines) stands.console_stands
      tell.0 tell.1);
  room = grind (arith, common_steps);
}

pub returns-in_err-lost-clause-ended : goal.returns-in_err-lost-clause-ended
returns-in_err-lost-clause-ended g c =
    handed_on _ _ c.from_residual.ensures.1 (ended_here (grind (arith, common_steps))
    (λ tell p cut before stands ran.
    left_behind c.in_err-lost.field-0.0 p cut c.as_slice.result.now before
    (emission (g.L.Link.offered c.args.link.now) (g.W.Output.tape c.args.out.now))
    (emission (g.L.Link.offered c.take_line.new.link) (g.W.Output.tape c.take_line.new.out))
    c.args.self.now.lost (c.as_slice.ensures.value ∙ stands.pending_is) ran
    (c.in_err-lost.ensures.leaves p (history_of p.show cut.lines) stands.console_stands tell.0
    tell.1)))

pub returns-then-self-eq-MOST_LINES-clause-ended : goal.returns-then-self-eq-MOST_LINES-clause-ended
returns-then-self-eq-MOST_LINES-clause-ended g c =
    ended_here (λ p cut stands.
    let next = stands.number_is in (omega (arith, next), late (omega (arith, next)))) (search rules)

pub returns-then-is_full-clause-ended : goal.returns-then-is_full-clause-ended
returns-then-is_full-clause-ended g c = ended_here (search rules) (search rules)
