use Rattle.wire_world.proofs.Linked.{datagram_is}
use Rattle.wire_world.proofs.stage.Stage.datagram.Goals as goal

pub returns : goal.returns
returns g c = λ p h s tells.
    rw (c.packet.ensures, c.as_slice.ensures.value) (datagram_is p h c.args.universe c.args.k
    _ _ _ (s.packets_kept tells c.args.universe) c.requires.here c.requires.wanted)
