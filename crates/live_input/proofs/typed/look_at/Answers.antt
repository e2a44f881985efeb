use Rattle.live_input.proofs.Terms.{◌∙◌, ◌≤◌, sym, length, arith, nat_tests, common_steps}
use Rattle.live_input.proofs.Terms.{take-append-le, take_all}
use Rattle.live_input.proofs.typed.look_at.Goals as goal

pub returns-then-not-is_full : goal.returns-then-not-is_full
returns-then-not-is_full c =
    let full = c.is_full.ensures in
    c.push.ensures.items
    ∙ sym (take_all 201 _ (grind (arith, common_steps, nat_tests, full.value, full.fits)))

pub returns-else-not-is_full : goal.returns-else-not-is_full
returns-else-not-is_full c =
    let line = c.args.line.now.items in
    let full : 201 ≤ length line = grind (arith, nat_tests, c.is_full.ensures.value) in
    sym (take-append-le 201 line _ full ∙ take_all 201 line c.is_full.ensures.fits)
