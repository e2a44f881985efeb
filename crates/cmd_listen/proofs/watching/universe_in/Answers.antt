use Rattle.cmd_listen.proofs.Results.{universe_of}
use Rattle.cmd_listen.proofs.watching.universe_in.Goals as goal

pub returns-in-Ok : goal.returns-in-Ok
returns-in-Ok c =
    let f = c.front.ensures c.args.datagram.now c.in-Ok.packet c.in-Ok.ensures.ok in
    universe_of c.args.datagram.now c.in-Ok.packet c.universe.result f.0 f.1 c.universe.ensures
