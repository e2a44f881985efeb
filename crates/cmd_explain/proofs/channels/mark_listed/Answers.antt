use Rattle.cmd_explain.proofs.Terms.{arith, subst, sym, IsTrue, All, nat_tests, is_channel}
use Rattle.cmd_explain.proofs.Terms.{entries_from_keys}
use Rattle.std.specs.FinMap as maps
use Rattle.cmd_explain.proofs.channels.mark_listed.Goals as goal

pub mark-requires : goal.mark-requires
mark-requires c =
    let each = subst (All (λ e. IsTrue (is_channel e.0)))
    (sym c.pairs-channel-items.ensures.entries)
    (entries_from_keys (λ n. IsTrue (is_channel n)) (maps.entries c.args.cue.now.levels)
    c.pairs-channel-items.ensures.range) in
    let within = each c.loop-channel.channel-index (0, 0) c.loop-channel-test.true in
    grind (arith, nat_tests, within)
