use Rattle.std.proofs.Common.{◌≡◌, ◌<◌, true, false, arith, length, get_or, refl}
use Rattle.std.specs.Prelude.{◌==◌}
use Rattle.std.proofs.lemmas.Bool.Decides.{nat_tests}
use Rattle.cmd_live.proofs.TakingUp.{stops_here, taken_byte, taken_line, taken_none}
use Rattle.cmd_live.proofs.night.Night.take_up.Goals.{then-text-at-eq10+else-not-recall}
use Rattle.cmd_live.proofs.night.Night.take_up.Goals.{else-text-at-eq10}
use Rattle.cmd_live.proofs.night.Night.take_up.Goals as goal

pub loop-at-init : goal.loop-at-init
loop-at-init g c = taken_none g.F.Fader.stands_for _ _ _ _ _ _ (λ tells. tells) c.requires.ready
    (λ tells. refl)

pub recall-requires : goal.recall-requires
recall-requires g c =
    let real = c.requires.real in
    record {
      ready = c.loop-at.invariant.takes.ready;
      real = (real.0, _, c.loop-at.invariant.takes.stands real.0 real.1.lines real.1.stands);
    }

pub returns-then-not-recall-clause-stops : goal.returns-then-not-recall-clause-stops
returns-then-not-recall-clause-stops g c =
    let at = c.loop-at.at in
    let text = c.args.text.now in
    let within : at < length text = omega (arith, c.loop-at-test.true) in
    let ends : (get_or text at 0 == 10) ≡ true = grind (arith, nat_tests, c.if-text-at-eq10.true) in
    stops_here g.F.Fader.stands_for _ _ _ _ text _ at _ _ _ within ends c.loop-at.invariant
    (c.recall.ensures.other c.if-not-recall.true)

pub loop-at-preserved : goal.loop-at-preserved
loop-at-preserved g c =
    let at = c.loop-at.at in
    let text = c.args.text.now in
    let within : at < length text = omega (arith, c.loop-at-test.true) in
    elim c.if-text-at-eq10.branch [
      | then-text-at-eq10+else-not-recall w ↦
          (let ends : (get_or text at 0 == 10) ≡ true =
          grind (arith, nat_tests, w.if-text-at-eq10.true) in
          rw (w.self-is, w.link-is, w.from-is, w.number-is)
          (taken_line g.F.Fader.stands_for _ _ _ _ text _ _ _ at _ _ _ _ within ends
          c.loop-at.invariant w.recall.ensures.told
          (w.recall.ensures.stands w.if-not-recall.false)
          (w.recall.ensures.recalls w.if-not-recall.false)
          (w.recall.ensures.offers w.if-not-recall.false)
          (w.recall.ensures.ready w.if-not-recall.false)))
      | else-text-at-eq10 w ↦
          (let other : (get_or text at 0 == 10) ≡ false =
          grind (arith, nat_tests, w.if-text-at-eq10.false) in
          rw (w.self-is, w.link-is, w.from-is, w.number-is)
          (taken_byte g.F.Fader.stands_for _ _ _ _ text _ at _ _ _ within other
          c.loop-at.invariant))
    ]
