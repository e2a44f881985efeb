use Rattle.cmd_listen.proofs.Terms.{◌≡◌, ◌≤◌, ◌++◌, ℕ, List, take, flat_map, AllZip, MonitorStands}
use Rattle.cmd_listen.proofs.Terms.{Knowledge, known_after, told_text}
use Rattle.cmd_listen.proofs.Lists.{HalfWay}
use Rattle.cmd_listen.proofs.monitors.take_all.Given as goal

-- those so far
abbrev pub invariant-loop-i : goal.invariant-loop-i
invariant-loop-i l = (t : ℕ) (known : List Knowledge) → AllZip (MonitorStands t) l.fn.monitors known
    → t ≤ l.instant.moment
    → HalfWay (MonitorStands l.instant.moment) (MonitorStands t) (known_after l.instant l.datagram)
    l.i l.monitors
    known
    × (l.text.items ≡ l.fn.text.items ++ flat_map (told_text l.instant l.datagram) (take l.i known))
