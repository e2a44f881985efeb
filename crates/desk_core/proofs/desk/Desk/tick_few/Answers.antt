use Rattle.desk_core.proofs.Terms.{◌≡◌, ℕ, false, sym, ap, ◌∙◌, length, get_or, arith, with_items_is}
use Rattle.desk_core.proofs.Terms.{grand_after, AreDrawn, frames_in, settings, channel_level}
use Rattle.desk_core.proofs.Drawn.{drawn_same}
use Rattle.desk_core.proofs.LiveTick.{redrawn, others_stay}
use Rattle.desk_core.proofs.desk.Desk.tick_few.Goals as goal

pub returns : goal.returns
returns g c = rw (← c.self.view_is) (λ show base history stands.
    let inside = c.self.inside in
    let moment = c.args.moment in
    let required = rw (← c.self.view_is) at c.requires in
    let before : ℕ → ℕ = channel_level show history inside.last_moment in
    let old : AreDrawn inside.rig.patch before c.grand.result (frames_in c.deref_mut.result.now) =
    drawn_same show.patch inside.rig.patch before (grand_after (settings history))
    c.grand.result (frames_in inside.slots.items) (frames_in c.deref_mut.result.now)
    (sym (c.self.invariant.patch_is ∙ ap (λ s. s.patch) stands.show_is))
    (sym (c.grand.ensures (settings history) stands.masters_stand))
    (ap frames_in (sym c.deref_mut.ensures.value)) (stands.kept required.kept.kept) in
    let size : length c.redraw_merged.new.slots ≡ inside.slots.len =
    omega (arith, c.redraw_merged.auto.slots, c.deref_mut.ensures.len, inside.slots.ok.0) in
    redrawn moment stands required.live g.F.Fader.latest _ required.floors
    c.advance.ensures.stands c.advance.ensures.latest_is c.deref.ensures.value
    c.self.invariant.patch_is c.grand.ensures
    (ap frames_in (with_items_is inside.slots c.redraw_merged.new.slots size)) (λ moved merged.
    c.redraw_merged.ensures.drawn show _ false before (channel_level show history moment) old
    (others_stay moment stands required.live required.kept c.self.invariant.not_ahead
    required.not_before) moved (λ k d lt.
    merged (get_or c.args.channels.now k d) (c.requires.in_range k d lt))))
