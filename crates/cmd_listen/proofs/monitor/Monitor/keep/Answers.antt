use Rattle.cmd_listen.proofs.Terms.{◌≡◌, refl, front_packet, HasPacket, sources_with}
use Rattle.cmd_listen.proofs.Results.{is_ok_of, if_ok_at}
use Rattle.cmd_listen.proofs.monitor.Monitor.keep.Goals as goal

pub unwrap-packet-requires : goal.unwrap-packet-requires
unwrap-packet-requires c =
    is_ok_of c.parse.result (λ none. none _ c.requires) c.parse.ensures.refused

pub returns : goal.returns
returns c =
    let has : HasPacket c.args.datagram.now c.unwrap-packet.result =
    if_ok_at c.parse.result c.unwrap-packet.result _ c.unwrap-packet.ensures c.parse.ensures.ok in
    let same : front_packet c.args.datagram.now ≡ c.unwrap-packet.result =
    (c.front.ensures c.args.datagram.now c.unwrap-packet.result has).1 in
    let after : c.sources_with-after.result.items
    ≡ sources_with c.args.moment (front_packet c.args.datagram.now) c.args.self.now.sources.items =
    cc (c.as_slice.ensures.value, c.sources_with-after.ensures, same) in (
      cc (
        c.in_ok-push_changes.ensures,
        c.head-head.ensures,
        c.as_slice-2.ensures.value,
        c.as_slice-3.ensures.value,
        after,
      ),
      refl,
      after,
    )
