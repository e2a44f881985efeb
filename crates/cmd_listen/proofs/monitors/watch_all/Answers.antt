use Rattle.cmd_listen.proofs.Terms.{MonitorStands, new_known}
use Rattle.cmd_listen.proofs.Lists.{zip_more}
use Rattle.cmd_listen.proofs.monitors.watch_all.Goals as goal

pub loop-universe-preserved : goal.loop-universe-preserved
loop-universe-preserved c = rw c.in_ok-push.ensures.items
    (zip_more (MonitorStands 0) new_known c.loop-universe.monitors.items c.args.universes.now
    c.loop-universe.universe-index c.new.result 0 c.loop-universe-test.true
    c.loop-universe.invariant c.new.ensures)
