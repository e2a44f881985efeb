use Rattle.std.proofs.Common.{rules, ◌≡◌, ◌∙◌, ◌+◌, ◌*◌, get_or, take, ap, arith}
use Rattle.std.proofs.lemmas.Grind.{common_steps}
use Rattle.fade_core.proofs.Look.{byte_passed, byte_passed-sorted}
use Rattle.fade_core.proofs.target.aim.Goals as goal

pub returns-clause-levels : goal.returns-clause-levels
returns-clause-levels c = λ i in_range.
    let look = c.args.look.now in
    let whole : take c.loop-channel.channel-index look ≡ look = grind (arith, common_steps) in
    let passed : get_or c.loop-channel.to i 0 ≡ 255 * byte_passed (i + 1) 0 look = search rules in
    passed ∙ ap (λ b. 255 * b) (byte_passed-sorted look (i + 1) c.requires.ascending)
