use Rattle.desk_core.proofs.Terms.{◌≡◌, false, ap, IsTrue, length, arith, All, with_items_is, is_channel}
use Rattle.desk_core.proofs.Terms.{frames_in, channel_level}
use Rattle.std.specs.FinMap as maps
use Rattle.desk_core.proofs.LiveTick.{redrawn}
use Rattle.desk_core.proofs.desk.Desk.tick_all.Goals as goal

pub returns : goal.returns
returns g c = rw (← c.self.view_is) (λ show base history stands.
    let inside = c.self.inside in
    let required = rw (← c.self.view_is) at c.requires in
    let size : length c.draw_merged.new.slots ≡ inside.slots.len =
    omega (arith, c.draw_merged.auto.slots, c.deref_mut.ensures.len, inside.slots.ok.0) in
    let channels : All (λ e. IsTrue (is_channel e.1.0)) (maps.entries inside.rig.patch) =
    rw c.self.invariant.patch_is c.self.invariant.in_range.patch_channels in
    redrawn c.args.moment stands required.live g.F.Fader.latest _ required.floors
    c.advance.ensures.stands c.advance.ensures.latest_is c.deref.ensures.value
    c.self.invariant.patch_is c.grand.ensures
    (ap frames_in (with_items_is inside.slots c.draw_merged.new.slots size))
    (c.draw_merged.ensures.drawn show _ false (channel_level show history c.args.moment) channels))
