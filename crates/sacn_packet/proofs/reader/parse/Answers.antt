use Rattle.std.proofs.Common.{ℕ, List, ◌+◌, arith, sym, ◌∙◌}
use Rattle.std.proofs.lemmas.List.{length-take-le, length-take}
use Rattle.std.proofs.Math.Facts.{Fits-lt-pow}
use Rattle.sacn_packet.proofs.Parts.{AreBytes}
use Rattle.sacn_packet.proofs.Found.{packet_from_readable, readable_from_packet}
use Rattle.sacn_packet.specs.Reading.{length_at}
use Rattle.sacn_packet.proofs.Readable.{readable_from_none, none_from_readable}
use Rattle.sacn_packet.proofs.reader.parse.Goals as goal

pub slice_bounds-new-end : goal.slice_bounds-new-end
slice_bounds-new-end c =
    let r = readable_from_none c.args.datagram.now (sym c.fault_in.ensures ∙ c.in-None.is) in
    sym (length-take-le (16 + c.from-size.result) c.args.datagram.now (omega arith))

pub new-requires : goal.new-requires
new-requires c =
    let r = readable_from_none c.args.datagram.now (sym c.fault_in.ensures ∙ c.in-None.is) in
    omega (arith, length-take (16 + c.from-size.result) c.args.datagram.now)

pub returns-in-Some-clause-refused : goal.returns-in-Some-clause-refused
returns-in-Some-clause-refused c =
    λ packet h.
    let none = none_from_readable c.args.datagram.now
    (readable_from_packet c.args.datagram.now h.0 packet.fields packet.slots h.1) in
    cc (c.fault_in.ensures, c.in-Some.is)

pub returns-in-None-clause-ok : goal.returns-in-None-clause-ok
returns-in-None-clause-ok c =
    let d : List ℕ = c.args.datagram.now in
    let r = readable_from_none d (sym c.fault_in.ensures ∙ c.in-None.is) in
    let bytes : AreBytes d = λ i. Fits-lt-pow (c.type_inv.datagram i) in (
      16 + length_at d 16,
      rw (c.new.ensures, c.from-size.ensures, c.length_at.ensures) (packet_from_readable d bytes r),
    )
