use Rattle.std.proofs.Common.{◌≡◌, ◌+◌, ◌-◌, ◌*◌, ◌≤◌, ◌∙◌, ap, sym, subst, arith, length, get_or}
use Rattle.std.proofs.lemmas.List.{with_items_is}
use Rattle.fade_core.specs.Level.{byte_of, level_after, split_fade}
use Rattle.fade_core.specs.Plain.{Makes, level_in}
use Rattle.fade_core.proofs.plain.PlainFaderFader.start.Goals as goal

pub returns-clause-stands : goal.returns-clause-stands
returns-clause-stands c = λ starts stands channel moment none from_one in_range later.
    let items = c.self.inside.fades.items in
    let new = c.aim.new.fades in
    let given = c.deref_mut.ensures.value in
    let size : length new ≡ length items = c.aim.auto.fades ∙ ap length given in
    let written = with_items_is c.self.inside.fades new
    (omega (arith, size, c.self.inside.fades.ok.0)) in
    let within : channel ≤ length items = omega (arith, ap length written, size, in_range) in
    let began : c.self.inside.latest ≤ c.args.moment =
    omega (arith, ap (λ f. f.latest) c.self.view_is, c.requires.not_before) in
    let before : level_in (get_or items (channel - 1) none) c.args.moment
    ≡ level_after starts channel c.args.moment =
    subst (λ f. Makes f starts) (sym c.self.view_is) stands channel c.args.moment none from_one
    within began in
    let here : channel - 1 + 1 ≡ channel = omega arith in
    ap (λ fades. level_in (get_or fades (channel - 1) none) moment) written
    ∙ c.aim.ensures.levels (channel - 1) moment none (omega (arith, within, ap length given))
    ∙ ap (λ fades. split_fade (level_in (get_or fades (channel - 1) none) c.args.moment)
    (255 * byte_of c.args.look.now (channel - 1 + 1)) c.args.up c.args.down
    (moment - c.args.moment)) given
    ∙ ap (λ level. split_fade level (255 * byte_of c.args.look.now (channel - 1 + 1))
    c.args.up c.args.down (moment - c.args.moment)) before
    ∙ ap (λ n. split_fade (level_after starts channel c.args.moment)
    (255 * byte_of c.args.look.now n) c.args.up c.args.down (moment - c.args.moment)) here
