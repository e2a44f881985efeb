use Rattle.cmd_listen.proofs.Terms.{◌≡◌, ◌∙◌, true, arith, ◌==◌, nat_tests, on_ok_weaker}
use Rattle.cmd_listen.proofs.monitor.Monitor.meet.Goals as goal

pub returns : goal.returns
returns c = on_ok_weaker c.hand.result (λ handed k s.
    let same : c.args.instant.to ≡ k.universe = c.if-instant-self.false ∙ s.universe_is in
    let here : (c.args.instant.to == k.universe) ≡ true = grind (arith, nat_tests) in
    rw here (handed k s))
    c.hand.ensures
