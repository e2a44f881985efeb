use Rattle.std.proofs.Common.{◌≡◌, ◌+◌, ◌++◌, ap, ◌∙◌, get_or}
use Rattle.cmd_show.specs.Slots.{universe_lines}
use Rattle.cmd_show.proofs.Universes.{universe_added}
use Rattle.cmd_show.proofs.levels.universes_text.Goals as goal

pub loop-ordinal-preserved : goal.loop-ordinal-preserved
loop-ordinal-preserved c =
    let text = c.loop-ordinal.text.items in
    let k = get_or c.args.ordinals.now c.loop-ordinal.ordinal-index 0 in
    let slots = c.cue_slots.result in
    let numbered : c.from.result + c.from-in-loop-ordinal.result ≡ c.args.base + k =
    cc (c.from.ensures, c.from-in-loop-ordinal.ensures) in
    let added : c.push_universe.new.text.items ≡ text ++ universe_lines (c.args.base + k) slots =
    c.in_ok-push_universe.ensures ∙ ap (λ n. text ++ universe_lines n slots) numbered in
    universe_added c.args.look.now.levels c.args.show.now.patch c.args.base
    c.args.ordinals.now c.loop-ordinal.ordinal-index c.loop-ordinal.text.items c.cue_slots.result
    c.push_universe.new.text.items c.loop-ordinal-test.true c.loop-ordinal.invariant
    c.cue_slots.ensures added
