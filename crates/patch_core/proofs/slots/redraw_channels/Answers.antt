use Rattle.patch_core.proofs.Terms.{◌≡◌, ℕ, ◌-◌, ◌≤◌, get_or, ap, ◌∙◌, arith, listed_level, slot_at}
use Rattle.patch_core.proofs.Redrawn.{channel_range, same_slot, want, kept, drawn, next}
use Rattle.patch_core.proofs.slots.redraw_channels.Goals as goal

pub loop-channel-init : goal.loop-channel-init
loop-channel-init c = λ patch before after index in_range holds agree listed dimmer is unlisted.
    holds dimmer is ∙ same_slot patch before after c.args.grand c.args.channels.now dimmer
    in_range agree unlisted

pub loop-channel-preserved : goal.loop-channel-preserved
loop-channel-preserved c =
    λ patch before after index in_range holds agree listed dimmer is rest.
    let k : ℕ = c.from-place.result in
    let j : ℕ = c.loop-channel.channel-index in
    let here : get_or c.args.channels.now j 0 ≡ k = omega (arith, c.from-place.ensures) in
    let range = channel_range (get_or c.args.channels.now j 0)
    (c.requires.channels j 0 c.loop-channel-test.true) in
    let one_up : 1 ≤ k = omega (arith, range.0) in
    let few : k ≤ 4096 = omega (arith, range.1) in
    let level_is : get_or c.args.levels.now (k - 1) 0 ≡ after k =
    ap (listed_level c.args.levels.now) (omega (arith, here))
    ∙ listed j 0 c.loop-channel-test.true ∙ ap after here in
    let old : ℕ → ℕ = slot_at c.loop-channel.slots in
    c.redraw_run.ensures (want patch index after c.args.grand k one_up few old)
    (λ at at_is unlisted. kept patch index after c.args.grand k one_up few old at
    (λ p low high. unlisted p (omega (arith, low, c.from-from.ensures))
    (omega (arith, high, c.from-to.ensures))))
    (λ p low high. drawn patch index after c.args.grand k one_up few old c.from-level.result p
    (c.from-level.ensures ∙ level_is) (omega (arith, low, c.from-from.ensures))
    (omega (arith, high, c.from-to.ensures)))
    dimmer is
    ∙ next patch index after c.args.grand k one_up few old c.args.channels.now j dimmer here
    (c.loop-channel.invariant patch before after index in_range holds agree listed dimmer
    is) rest

pub returns : goal.returns
returns c = λ patch before after index in_range holds agree listed dimmer is.
    c.loop-channel.invariant patch before after index in_range holds agree listed dimmer is
    (λ channel byte m found low high. absurd (omega arith))
