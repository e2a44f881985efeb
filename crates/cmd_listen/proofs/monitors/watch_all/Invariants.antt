use Rattle.cmd_listen.proofs.Terms.{map, take, AllZip, MonitorStands, new_known}
use Rattle.cmd_listen.proofs.monitors.watch_all.Given as goal

-- those so far
abbrev pub invariant-loop-universe : goal.invariant-loop-universe
invariant-loop-universe l =
    AllZip (MonitorStands 0) l.monitors.items (map new_known (take l.universe-index l.universes))
