use Rattle.std.proofs.Common.{◌≡◌, ℕ, length, ap, sym, ◌∙◌, arith, List, Some, slice_get}
use Rattle.std.proofs.lemmas.List.FromFn.{map-range_with_len_more}
use Rattle.wire_world.proofs.Terms.{slice_get-get_or, shown_slots, accepted_by}
use Rattle.wire_world.proofs.showing.show_all.Goals as goal

pub loop-i-preserved : goal.loop-i-preserved
loop-i-preserved c = λ w past hear.
    let at : slice_get c.args.receivers.now c.loop-i.i ≡ Some c.index-receivers-i.result =
    slice_get-get_or c.args.receivers.now c.loop-i.i c.index-receivers-i.result
    c.loop-i-test.true ∙ ap Some (sym c.index-receivers-i.is) in
    let f : ℕ → List ℕ = λ r. shown_slots (accepted_by w r past) c.args.moment in
    rw (c.in_ok-push.ensures.items, c.loop-i.invariant w past hear)
    (rw (c.slots.ensures _ (hear.stand c.loop-i.i c.index-receivers-i.result at))
    (sym (map-range_with_len_more f 0 c.loop-i.i c.loop-i.i (omega arith))))

pub returns : goal.returns
returns c = λ w past hear time. let end : c.loop-i.i ≡ length w.receivers =
    omega (arith, c.loop-i-test.false, c.loop-i.auto.i-end, hear.each) in
    rw (c.loop-i.invariant w past hear, end, time)
