use Rattle.std.proofs.Common.{◌≡◌, ◌<◌, ◌∙◌, length, get_or, take, ap, arith, refl, List}
use Rattle.std.proofs.Common.{slice_index}
use Rattle.wire_world.specs.Replies.{events_done, last_slots}
use Rattle.desk_core.specs.declared.command.Command.TheVariants.{Go}
use Rattle.desk_core.specs.declared.instruction.Instruction.TheVariants.{Plain}
use Rattle.std.proofs.lemmas.List.{get_or_default, take_all}
use Rattle.wire_world.proofs.Terms.{scaled_Fits, slice_get-get_or, slice_get_within, Happening, Order}
use Rattle.wire_world.proofs.Events.{early, replayed_more}
use Rattle.wire_world.proofs.Wants.{hold_first, hold_next}
use Rattle.wire_world.proofs.replay.run.Goals as goal

pub step-requires-clause-early : goal.step-requires-clause-early
step-requires-clause-early g c =
    let b = c.requires.begun in early (c.loop-i.invariant.1 b.0 b.1 b.2)

pub loop-i-init : goal.loop-i-init
loop-i-init g c =
    let b = c.requires.begun in (
      hold_first g.F.Fader.stands_for c.args.stages.now b.0 c.args.events.now b.2.stand b.2.tell
          c.requires.wanted,
      λ w same are. rw c.in_ok-replies.ensures.items (record {
        long = refl;
        last_is = refl;
        are = are;
        below = λ j e l. absurd (omega (arith, l));
      }),
    )

pub loop-i-preserved : goal.loop-i-preserved
loop-i-preserved g c = (
  (let event : Happening = get_or c.args.events.now c.loop-i.i
      (record { moment = 0; what = Order 0 (Plain Go) }) in
      let low : c.index.result.now ≡ slice_index c.in_ok-lows.lows.items c.loop-i.i =
      c.index.ensures ∙ get_or_default c.in_ok-lows.lows.items c.loop-i.i c.index.result.now 0
      (omega (arith, c.in_ok-lows.ensures.each, c.loop-i-test.true)) in
      hold_next c.loop-i.stages c.step.new.stages c.release.new.stages c.args.events.now
      c.in_ok-lows.lows.items c.loop-i.i event
      (slice_get-get_or c.args.events.now c.loop-i.i _ c.loop-i-test.true)
      c.in_ok-lows.ensures.lows c.in_ok-reply.ensures.spans
      (λ later h s. c.release.ensures.holds later h (rw low s)) c.loop-i.invariant.0),
  λ w same are. let all = c.loop-i.invariant.1 w same are in
      let s = c.in_ok-reply.ensures.step w (events_done w (take c.loop-i.i c.args.events.now)) same
      all.last_is all.are in
      rw c.in_ok-push.ensures.items
      (replayed_more _ c.loop-i-test.true all (record {
        replied = s.replied;
        last_is = s.last_is;
        are = record {
          stand = c.release.ensures.stand _ _ s.are.stand;
          tell = c.release.ensures.tell s.are.tell;
          hear = s.are.hear;
        };
      })),
)

pub step-requires-clause-real : goal.step-requires-clause-real
step-requires-clause-real g c =
    let b = c.requires.begun in (
      b.0,
      events_done b.0 (take c.loop-i.i c.args.events.now),
      (c.loop-i.invariant.1 b.0 b.1 b.2).are.stand,
    )

pub show_all-requires : goal.show_all-requires
show_all-requires g c = let b = c.requires.begun in early (c.loop-i.invariant.1 b.0 b.1 b.2)

pub returns : goal.returns
returns g c = λ w same are. let all = c.loop-i.invariant.1 w same are in
    let events = c.args.events.now in
    let end : c.loop-i.i ≡ length events =
    omega (arith, c.loop-i-test.false, c.loop-i.auto.i-end) in
    record {
      replies = (
        omega (arith, all.long, end),
        λ j e h. let l : j < length events = slice_get_within events j e h in
            all.below j e (omega arith) h,
      );
      last =
          c.in_ok-last.ensures w (events_done w (take c.loop-i.i events)) all.are.hear all.last_is
          ∙ ap (λ (es : List Happening). last_slots w (events_done w es))
          (take_all c.loop-i.i events (omega arith));
    }

pub step-requires-clause-holds : goal.step-requires-clause-holds
step-requires-clause-holds g c = c.loop-i.invariant.0 c.loop-i.i _ (omega arith)
    (slice_get-get_or c.args.events.now c.loop-i.i _ c.loop-i-test.true)

pub step-requires-clause-within : goal.step-requires-clause-within
step-requires-clause-within g c = c.requires.within c.loop-i.i _ c.loop-i-test.true

pub index-requires : goal.index-requires
index-requires g c = omega (arith, c.in_ok-lows.ensures.each, c.loop-i-test.true)

pub offset_bounds-events-i : goal.offset_bounds-events-i
offset_bounds-events-i g c = search scaled_Fits
