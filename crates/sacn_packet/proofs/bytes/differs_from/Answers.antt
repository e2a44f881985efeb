use Rattle.std.proofs.Common.{◌≡◌, ◌+◌, ◌-◌, arith, refl}
use Rattle.std.proofs.Math.Facts.{Fits-lt-pow}
use Rattle.sacn_packet.proofs.Differs.{four_bytes, other_number}
use Rattle.sacn_packet.proofs.bytes.differs_from.Goals as goal

pub returns : goal.returns
returns c =
    let four : c.args.offset + 4 - c.args.offset ≡ 4 = omega arith in
    rw (c.read_u32.ensures, four)
    (other_number c.args.bytes.now c.args.offset 4 c.args.wanted c.requires
    (λ i. Fits-lt-pow (c.type_inv.bytes i)) four_bytes (Fits-lt-pow c.ranges.wanted) refl)
