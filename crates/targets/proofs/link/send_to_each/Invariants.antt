use Rattle.std.proofs.Common.{◌≡◌, List, is_err, take}
use Rattle.targets.specs.Datagram.{Datagram, IsSentTo, has_failed, with_datagrams}
use Rattle.targets.proofs.link.send_to_each.Given as goal

abbrev pub invariant-loop-address : goal.invariant-loop-address
invariant-loop-address g l =
    (g.S.Sender.tells l.sender → g.S.Sender.tells l.fn.sender)
    × (g.S.Sender.tells l.sender → (sent : List Datagram)
    × IsSentTo (take l.address-index l.addresses) l.bytes sent
    × (is_err l.answer ≡ has_failed sent)
    × (g.S.Sender.offered l.sender
    ≡ with_datagrams (g.S.Sender.offered l.fn.sender) sent))
