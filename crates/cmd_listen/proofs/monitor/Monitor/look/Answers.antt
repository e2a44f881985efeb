use Rattle.cmd_listen.proofs.Terms.{on_ok_weaker}
use Rattle.cmd_listen.proofs.Stood.{looks, looks_not}
use Rattle.cmd_listen.proofs.monitor.Monitor.look.Goals as goal

pub returns-then-not-instant : goal.returns-then-not-instant
returns-then-not-instant c = λ k s.
    looks_not c.args.instant c.args.self.now k c.args.text.now.items c.if-not-instant.true s

pub returns : goal.returns
returns c = on_ok_weaker c.show.result (λ shown k s. looks c.args.instant c.show.new.self k
    c.args.text.now.items c.show.new.text.items c.if-not-instant.false (shown k s))
    c.show.ensures
