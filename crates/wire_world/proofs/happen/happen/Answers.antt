use Rattle.std.proofs.Common.{arith, List, ℕ, ◌^◌, ap, refl, sym, ◌∙◌, Some, None, w64}
use Rattle.std.proofs.Common.{if◌then◌else◌, nat_eq, slice_range}
use borrow.Author.Rules.{Fits-under}
use Rattle.wire_world.specs.Replies.{no_receiver_at, datagram_reply}
use Rattle.wire_world.specs.declared.reply.Reply.TheVariants as reply
use Rattle.wire_world.proofs.Terms.{option_map_or, IfOk-weaker}
use Rattle.wire_world.proofs.Events.{hear_same, always, stand_same}
use Rattle.wire_world.proofs.happen.happen.Goals as goal

pub tick_at-requires : goal.tick_at-requires
tick_at-requires g c = record { real = c.requires.real }

pub show_at-requires : goal.show_at-requires
show_at-requires g c = c.requires.early

pub overflow_cast-bytes : goal.overflow_cast-bytes
overflow_cast-bytes g c = let within = rw c.in-Stray.is at c.requires.within in
    Fits-under w64 c.in-Stray.from (2 ^ 64)
    (omega (arith, within.0, within.1, c.ranges.incident.0)) tt

pub overflow_cast-bytes-in-Stray : goal.overflow_cast-bytes-in-Stray
overflow_cast-bytes-in-Stray g c = let within = rw c.in-Stray.is at c.requires.within in
    Fits-under w64 c.in-Stray.to (2 ^ 64)
    (omega (arith, within.0, within.1, c.ranges.incident.0)) tt

pub slice_bounds-bytes-count : goal.slice_bounds-bytes-count
slice_bounds-bytes-count g c = (rw c.in-Stray.is at c.requires.within).0

pub deliver_at-requires : goal.deliver_at-requires
deliver_at-requires g c = rw c.in-Deliver.is at c.requires.holds

pub returns-in-Order : goal.returns-in-Order
returns-in-Order g c = record {
  tell = c.order_at.ensures.tell;
  spans = c.order_at.ensures.spans;
  reply = λ w past same all tell hear. rw c.in-Order.is (c.order_at.ensures.reply w past all);
  stands = rw c.in-Order.is c.order_at.ensures.stands;
  hear = λ w past same all tell hear. rw c.in-Order.is (hear_same _ _ (λ r. refl) hear);
}

pub returns-in-Tick : goal.returns-in-Tick
returns-in-Tick g c = record {
  tell = c.tick_at.ensures.tell;
  spans = c.tick_at.ensures.spans;
  reply = IfOk-weaker c.tick_at.result _ _
      (λ reply is w past same all tell hear. rw c.in-Tick.is (is w past all))
      c.tick_at.ensures.reply;
  stands = rw c.in-Tick.is c.tick_at.ensures.stands;
  hear = always c.tick_at.result _ (λ _ w past same all tell hear.
      rw c.in-Tick.is (hear_same _ _ (λ r. refl) hear));
}

pub returns-in-Deliver : goal.returns-in-Deliver
returns-in-Deliver g c = record {
  tell = λ all. all;
  spans = λ i u. refl;
  reply = λ w past same. rw c.in-Deliver.is (c.deliver_at.ensures.reply w past);
  stands = λ w past all. rw c.in-Deliver.is (stand_same _ _ (λ j. refl) all);
  hear = λ w past same. rw c.in-Deliver.is (c.deliver_at.ensures.hear w past);
}

pub returns-in-Stray : goal.returns-in-Stray
returns-in-Stray g c = record {
  tell = λ all. all;
  spans = λ i u. refl;
  reply = λ w past same all tell hear. rw c.in-Stray.is (c.hear_at.ensures.reply w past hear
      ∙ ap (λ (s : List ℕ). option_map_or reply.Skipped (no_receiver_at w c.in-Stray.receiver)
      (datagram_reply w c.in-Stray.receiver past c.args.incident.event.moment
      (slice_range s c.in-Stray.from c.in-Stray.to))) (sym same));
  stands = λ w past all. rw c.in-Stray.is (stand_same _ _ (λ j. refl) all);
  hear = λ w past same all tell hear. rw c.in-Stray.is (c.hear_at.ensures.hear w past _ hear
      refl (λ r. ap (λ (s : List ℕ). if nat_eq c.in-Stray.receiver r then Some
      (slice_range s c.in-Stray.from c.in-Stray.to) else None) same));
}

pub returns-in-Show : goal.returns-in-Show
returns-in-Show g c = record {
  tell = always c.show_at.result _ (λ _ all. all);
  spans = always c.show_at.result _ (λ _ i u. refl);
  reply = IfOk-weaker c.show_at.result _ _ (λ reply is w past same all tell hear.
      rw c.in-Show.is (is w past hear)) c.show_at.ensures;
  stands = always c.show_at.result _ (λ _ w past all.
      rw c.in-Show.is (stand_same _ _ (λ j. refl) all));
  hear = always c.show_at.result _ (λ _ w past same all tell hear.
      rw c.in-Show.is (hear_same _ _ (λ r. refl) hear));
}
