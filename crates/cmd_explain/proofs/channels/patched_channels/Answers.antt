use Rattle.cmd_explain.proofs.Terms.{arith, nat_tests}
use Rattle.cmd_explain.proofs.channels.patched_channels.Goals as goal

pub mark-requires : goal.mark-requires
mark-requires c =
    let within = (c.patch-channel-items.ensures.range c.loop-channel.channel-index (0, (0, 0))
    c.loop-channel-test.true).1 in
    grind (arith, nat_tests, within)
