use Rattle.std.proofs.Common.{◌∙◌, subst}
use Rattle.std.proofs.Math.Logic.{∥∥₁_map}
use Rattle.targets.specs.Datagram.{IsSentTo}
use Rattle.targets.proofs.Packets.{all_more}
use Rattle.targets.proofs.link.TargetLinkLink.send.Goals as goal

pub invariant_of-self : goal.invariant_of-self
invariant_of-self g c =
    let link = c.args.self.now in
    let bytes = c.args.bytes.now in record {
      to_all = ∥∥₁_map link.to_all (λ before told.
          let (sent, is, failed, offered) = c.send_packet.ensures.sends told in
          all_more link.targets (g.S.Sender.offered link.sender)
          (g.S.Sender.offered c.send_packet.new.sender)
          (record { universe = c.args.universe; bytes = bytes; datagrams = sent })
          (before (c.send_packet.ensures.told told))
          (subst (λ addresses. IsSentTo addresses bytes sent)
          (c.as_slice.ensures.value ∙ c.addresses-addresses.ensures) is) offered);
    }
