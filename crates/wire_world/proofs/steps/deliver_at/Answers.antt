use Rattle.std.proofs.Common.{◌≡◌, ap, sym, ◌∙◌, refl, None, Some, arith, length, nat_eq}
use Rattle.std.proofs.Common.{if◌then◌else◌}
use Rattle.std.proofs.lemmas.Bool.{le-ltb, lt-ltb}
use Rattle.wire_world.specs.Wanted.{hands_over}
use Rattle.wire_world.proofs.Terms.{option_map, World, StageStands, LinkTells}
use Rattle.wire_world.proofs.Events.{absent, at_number, looked_up}
use Rattle.wire_world.proofs.steps.deliver_at.Goals as goal

pub datagram-requires : goal.datagram-requires
datagram-requires g c = let kept = c.requires _ _ _ _ _ refl
    (at_number c.args.stages.now _ _ _ c.from-i.ensures c.if-i-stages.false c.index-stages-i.is) in
    record { here = kept.0; wanted = kept.1 }

pub returns-in_default : goal.returns-in_default
returns-in_default g c =
    let is = looked_up (StageStands g.F.Fader.stands_for) LinkTells _ c.args.receivers.now _
    c.args.handover.receiver _ _ _ (at_number c.args.stages.now _ _ _ c.from-i.ensures
    c.if-i-stages.false c.index-stages-i.is)
    (omega (arith, c.from.ensures, c.if-from-receivers.false)) None
    (λ p h s t. ap (option_map (λ b. b.now)) (sym c.in_default.is) ∙ c.datagram.ensures p h s t) in
    record {
      reply = λ w past all tell hear. rw (is w past all tell hear).2 refl;
      hear = λ w past all tell hear. rw (is w past all tell hear).2 hear;
    }

pub returns : goal.returns
returns g c =
    let is = looked_up (StageStands g.F.Fader.stands_for) LinkTells _ c.args.receivers.now _
    c.args.handover.receiver _ _ _ (at_number c.args.stages.now _ _ _ c.from-i.ensures
    c.if-i-stages.false c.index-stages-i.is)
    (omega (arith, c.from.ensures, c.if-from-receivers.false)) (Some c.in-Some.bytes.now)
    (λ p h s t. ap (option_map (λ b. b.now)) (sym c.in-Some.is) ∙ c.datagram.ensures p h s t) in
    record {
      reply = λ w past all tell hear. let i = is w past all tell hear in
          rw (i.2, ← i.1) (rw i.0 at (c.hear_at.ensures.reply w past hear));
      hear = λ w past all tell hear. let i = is w past all tell hear in
          rw i.2 (rw i.0 at (c.hear_at.ensures.hear w past
          (record { moment = c.args.moment; what = hands_over c.args.handover }) hear refl
          (λ r. ap (λ o. if nat_eq c.args.handover.receiver r then o else None) (sym i.1))));
    }

pub returns-then-i-stages : goal.returns-then-i-stages
returns-then-i-stages g c =
    let none = absent c.args.stages.now c.args.handover.console _ c.from-i.ensures
    c.if-i-stages.true in
    record {
      reply = λ w past all tell hear. rw (none w all.each) refl;
      hear = λ w past all tell hear. rw (none w all.each) hear;
    }

pub returns-then-from-receivers : goal.returns-then-from-receivers
returns-then-from-receivers g c =
    let here = λ (w : World) (same : length c.args.stages.now ≡ length w.consoles).
    lt-ltb c.args.handover.console (length w.consoles)
    (omega (arith, same, c.from-i.ensures, c.if-i-stages.false)) in
    let none = λ (w : World) (same : length c.args.receivers.now ≡ length w.receivers).
    le-ltb c.args.handover.receiver (length w.receivers)
    (omega (arith, same, c.from.ensures, c.if-from-receivers.true)) in
    record {
      reply = λ w past all tell hear. rw (here w all.each, none w hear.each) refl;
      hear = λ w past all tell hear. rw (here w all.each, none w hear.each) hear;
    }
