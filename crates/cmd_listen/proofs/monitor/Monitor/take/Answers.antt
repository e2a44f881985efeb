use Rattle.cmd_listen.proofs.Terms.{on_ok_weaker, met_after, after_wait}
use Rattle.cmd_listen.proofs.Texts.{three}
use Rattle.cmd_listen.proofs.monitor.Monitor.take.Goals as goal

pub returns : goal.returns
returns c = on_ok_weaker c.look.result (λ third t k s le.
    let i = c.args.instant in
    let first = c.in_ok-wait.ensures t k s le in
    let second = c.in_ok-meet.ensures (after_wait i k) first.0 in
    let last = third (met_after i c.args.datagram.now (after_wait i k)) second.0 in (
      last.0,
      three _ _ _ _ _ _ _ first.1 second.1 last.1,
    ))
    c.look.ensures
