use Rattle.std.proofs.Common.{List, ℕ, ◌++◌, append_assoc, codes, flat_map, ap, ◌∙◌, arith}
use Rattle.std.specs.List.{enumerate_from}
use Rattle.sacn_receiver.specs.Replies.{slot_text}
use Rattle.sacn_receiver.proofs.SlotsLines.{slots_all, slots_more}
use Rattle.sacn_receiver.proofs.slots.push_slots.Goals as goal

pub loop-slot-preserved : goal.loop-slot-preserved
loop-slot-preserved c = record {
  room = omega (arith, c.push_slot.ensures.room, c.loop-slot.invariant.room);
  text = c.push_slot.ensures.text
      ∙ slots_more c.loop-slot.line.bytes (c.args.line.now.bytes ++ codes "slots")
      c.args.slots.now c.loop-slot.slot
      (omega (arith, c.loop-slot-test.true, c.fits-slots)) c.loop-slot.invariant.text;
}

pub returns : goal.returns
returns c =
    let before = c.args.line.now.bytes in
    let texts : List ℕ = flat_map slot_text (enumerate_from 1 c.args.slots.now) in
    let all = slots_all c.args.slots.now c.loop-slot.slot
    (omega (arith, c.loop-slot-test.false, c.loop-slot.auto.slot-end, c.fits-slots)) in
    c.push_str-2.ensures.bytes
    ∙ ap (λ text. text ++ codes "\n") (c.loop-slot.invariant.text
    ∙ ap (λ slots. (before ++ codes "slots") ++ flat_map slot_text slots) all
    ∙ append_assoc before (codes "slots") texts)
    ∙ append_assoc before (codes "slots" ++ texts) (codes "\n")
