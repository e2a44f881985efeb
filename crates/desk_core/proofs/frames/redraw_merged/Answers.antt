use Rattle.desk_core.proofs.Terms.{◌≡◌, ◌∙◌, ◌-◌, ℕ, arith, get_or, All-get_or, listed_level}
use Rattle.desk_core.proofs.Terms.{channel_range}
use Rattle.desk_core.proofs.frames.redraw_merged.Goals as goal

pub returns-in-Some-clause-drawn : goal.returns-in-Some-clause-drawn
returns-in-Some-clause-drawn g c = λ show moves stopped before after old others stands same.
    c.redraw.ensures before after old others (λ k d lt.
    let channel : ℕ = get_or c.args.channels.now k d in
    let is = c.requires.in_range k d lt in
    let none : listed_level c.args.merged.now.floors.now channel ≡ 0 =
    All-get_or (λ floor. floor ≡ 0) c.args.merged.now.floors.now (channel - 1) 0
    (omega (arith, channel_range channel is, c.args.merged.now.each_channel))
    (c.args.merged.now.none c.if-not-merged.true) in
    let playing = c.in-Some.ensures.levels show moves stopped stands channel is in
    omega (arith, none, playing, same k d lt))

pub returns-in_default-clause-drawn : goal.returns-in_default-clause-drawn
returns-in_default-clause-drawn g c = λ show moves stopped before after old others stands same.
    c.redraw-in_default.ensures before after old others (λ k d lt.
    c.merge_some.ensures.merged show moves stopped stands k d lt ∙ same k d lt)
