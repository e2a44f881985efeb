use Rattle.std.proofs.Common.{List, ℕ, drop, append-nil, [], ◌≡◌, arith}
use Rattle.std.proofs.lemmas.List.{drop_all, length-drop}
use Rattle.sacn_packet.proofs.Packets.{refilled}
use Rattle.sacn_packet.proofs.kept.refill.Goals as goal

pub returns-clause-bytes : goal.returns-clause-bytes
returns-clause-bytes c =
    let p : List ℕ = c.args.packet.now in
    let past : drop 512 (drop 126 p) ≡ [] =
    drop_all 512 (drop 126 p) (omega (arith, length-drop 126 p, c.told-packet)) in
    rw (past, append-nil, c.copy_from_slice.ensures.after)

pub returns-clause-packet : goal.returns-clause-packet
returns-clause-packet c = λ fields old h.
    rw (returns-clause-bytes c) (refilled c.args.packet.now fields old h c.args.slots.now
    (omega (arith, h.size, c.told-packet, c.told-slots)))
