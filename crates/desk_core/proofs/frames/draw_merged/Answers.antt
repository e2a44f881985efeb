use Rattle.desk_core.proofs.Terms.{◌≡◌, ◌∙◌, ◌-◌, arith, All-get_or, listed_level, frames_in}
use Rattle.desk_core.proofs.Terms.{channel_range}
use Rattle.desk_core.proofs.Drawn.{drawn_alike}
use Rattle.desk_core.proofs.frames.draw_merged.Goals as goal

pub returns-in-Some-clause-drawn : goal.returns-in-Some-clause-drawn
returns-in-Some-clause-drawn g c = λ show moves stopped level channels stands same.
    drawn_alike c.args.rig.now.patch channels (listed_level c.in-Some.playing.now) level
    (λ channel is.
    let none : listed_level c.args.merged.now.floors.now channel ≡ 0 =
    All-get_or (λ floor. floor ≡ 0) c.args.merged.now.floors.now (channel - 1) 0
    (omega (arith, channel_range channel is, c.args.merged.now.each_channel))
    (c.args.merged.now.none c.if-not-merged.true) in
    let playing = c.in-Some.ensures.levels show moves stopped stands channel is in
    omega (arith, none, playing, same channel is))
    c.args.merged.now.grand (frames_in c.draw.new.slots) c.draw.ensures

pub returns-in_default-clause-drawn : goal.returns-in_default-clause-drawn
returns-in_default-clause-drawn g c = λ show moves stopped level channels stands same.
    drawn_alike c.args.rig.now.patch channels (listed_level c.merge_levels.new.levels) level
    (λ channel is. c.merge_levels.ensures.merged show moves stopped stands channel is
    ∙ same channel is)
    c.args.merged.now.grand (frames_in c.draw-in_default.new.slots) c.draw-in_default.ensures
