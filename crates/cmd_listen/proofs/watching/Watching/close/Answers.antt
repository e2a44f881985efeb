use Rattle.cmd_listen.proofs.Terms.{refl, on_ok_weaker}
use Rattle.cmd_listen.proofs.Passing.{closes}
use Rattle.cmd_listen.proofs.watching.Watching.close.Goals as goal

pub returns : goal.returns
returns c = on_ok_weaker c.pass.result (λ pass w s.
    closes _ c.args.self.now _ w c.args.text.now.items _ s refl (pass w))
    c.pass.ensures
