use Rattle.std.proofs.Common.{◌∷◌, ◌++◌, ◌≤◌, ◌<◌, [], length, sym, ◌∙◌, ap, arith, take_all}
use Rattle.std.proofs.lemmas.Bool.Decides.{nat_tests}
use Rattle.std.proofs.lemmas.Grind.{common_steps}
use Rattle.std.proofs.lemmas.List.{take-append-le}
use Rattle.byte_reading.specs.ShortLines.{shown_byte}
use Rattle.byte_reading.proofs.ShortText.{shown_ascii}
use Rattle.byte_reading.proofs.short_lines.push_shown.Goals as goal

pub returns-then-not-is_full : goal.returns-then-not-is_full
returns-then-not-is_full c =
    let full = c.is_full.ensures in
    let is = c.from.ensures ∙ c.shown_byte.ensures in
    let small : c.from.result < 128 = grind (arith, is, shown_ascii c.args.byte) in
    let line = c.args.line.now.bytes in
    let room : length (line ++ shown_byte c.args.byte ∷ []) ≤ 160
    = grind (arith, common_steps, nat_tests, full.value, full.fits, c.if-not-is_full.true) in
    c.push.ensures.ascii small
    ∙ ap (λ x. line ++ x ∷ []) is
    ∙ sym (take_all 160 (line ++ shown_byte c.args.byte ∷ []) room)

pub returns-else-not-is_full : goal.returns-else-not-is_full
returns-else-not-is_full c =
    let line = c.args.line.now.bytes in
    let full : 160 ≤ length line = grind (arith, nat_tests, c.is_full.ensures.value) in
    sym (take-append-le 160 line _ full ∙ take_all 160 line c.is_full.ensures.fits)
