use Rattle.std.proofs.Common.{◌++◌}
use Rattle.sacn_packet.proofs.Found.{same_packets, packet_front}
use Rattle.sacn_packet.proofs.laws.read_back.Goals as goal

pub returns : goal.returns
returns c =
    λ bytes behind packet h. (
      packet_front bytes behind packet h,
      λ found k. same_packets (bytes ++ behind) found packet k
          (packet_front bytes behind packet h),
    )
