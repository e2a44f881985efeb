use Rattle.std.proofs.Common.{◌≡◌, ◌∙◌, ap, is_err, sym}
use Rattle.std.specs.Prelude.{◌||◌}
use Rattle.targets.proofs.Packets.{or_false, or_true, step}
use Rattle.targets.proofs.link.send_to_each.Goals as goal
use Rattle.targets.proofs.link.send_to_each.Goals.{then-is_err, else-is_err}

pub loop-address-preserved : goal.loop-address-preserved
loop-address-preserved g c =
    let before = c.loop-address.invariant in
    let answer = c.loop-address.answer in
    let fails : is_err c.if-is_err.answer ≡ (is_err answer || is_err c.send_to.result) =
    elim c.if-is_err.branch [
      | then-is_err w ↦ ap is_err w.answer-is ∙ sym (ap (λ b. is_err answer || b)
          (sym c.is_err.ensures.value ∙ w.if-is_err.true) ∙ or_true (is_err answer))
      | else-is_err w ↦ ap is_err w.answer-is ∙ sym (ap (λ b. is_err answer || b)
          (sym c.is_err.ensures.value ∙ w.if-is_err.false) ∙ or_false (is_err answer))
    ] in (
      λ told. before.0 (c.send_to.ensures.told told),
      λ told.
          let (sent, is, failed, offered) = before.1 (c.send_to.ensures.told told) in
          step (g.S.Sender.offered c.args.sender.now) (g.S.Sender.offered c.loop-address.sender)
          (g.S.Sender.offered c.send_to.new.self) c.args.addresses.now c.args.bytes.now
          c.loop-address.address-index _ sent (is_err answer) (is_err c.if-is_err.answer)
          (is_err c.send_to.result) c.loop-address-test.true is failed offered
          (c.send_to.ensures.offered told) fails,
    )
