use Rattle.cmd_listen.proofs.Terms.{refl, on_ok_weaker}
use Rattle.cmd_listen.proofs.Passing.{arrives, falls}
use Rattle.cmd_listen.proofs.watching.Watching.take.Goals as goal

pub returns-then-moment-self : goal.returns-then-moment-self
returns-then-moment-self c = λ w s.
    falls c.args.moment c.args.datagram.now c.args.self.now _ w c.args.text.now.items s
    c.if-moment-self.true refl c.count.ensures

pub returns : goal.returns
returns c = on_ok_weaker c.pass.result (λ pass w s.
    arrives c.args.moment c.args.datagram.now c.instant-instant.result c.args.self.now _ w
    c.args.text.now.items _ s c.if-moment-self.false c.instant-instant.ensures (pass w))
    c.pass.ensures
