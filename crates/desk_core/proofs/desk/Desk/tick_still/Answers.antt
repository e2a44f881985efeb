use Rattle.desk_core.proofs.Terms.{subst, rules, IsInRange, grand_after, frames_in, settings}
use Rattle.desk_core.proofs.Terms.{channel_level}
use Rattle.desk_core.specs.Inside.{are_kept}
use Rattle.desk_core.proofs.Drawn.{drawn_alike}
use Rattle.desk_core.proofs.LiveTick.{not_stopped, ticked, none_made_now, others_stay}
use Rattle.desk_core.proofs.desk.Desk.tick_still.Goals as goal

pub returns : goal.returns
returns g c = rw (← c.self.view_is) (λ show base history stands.
    let inside = c.self.inside in
    let moment = c.args.moment in
    let required = rw (← c.self.view_is) at c.requires in
    let not_ahead = c.self.invariant.not_ahead in
    let in_range : IsInRange show = subst IsInRange stands.show_is c.self.invariant.in_range in
    ticked moment stands required.live inside.playback (frames_in inside.slots.items)
    (are_kept inside.frame_state)
    (rw (none_made_now moment stands required.live required.kept not_ahead required.not_before)
    (not_stopped moment stands required.live))
    (drawn_alike show.patch in_range.patch_channels (channel_level show history inside.last_moment)
    (channel_level show history moment) (λ channel is.
    others_stay moment stands required.live required.kept not_ahead required.not_before channel is
    (λ has. search rules)) (grand_after (settings history)) (frames_in inside.slots.items)
    (stands.kept required.kept.kept)))
