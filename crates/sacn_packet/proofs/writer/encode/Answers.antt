use Rattle.std.proofs.Common.{◌≡◌, length, ap, arith, rules}
use Rattle.std.proofs.lemmas.List.{length-append}
use Rattle.sacn_packet.proofs.Packets.{layers_are_data, framing_tail}
use Rattle.sacn_packet.specs.Header.{header_fields}
use Rattle.sacn_packet.specs.Name.{padded_name}
use Rattle.sacn_packet.proofs.writer.encode.Goals as goal

pub returns : goal.returns
returns c =
    let name : length (padded_name c.args.header.now.name) ≡ 64 =
    omega (
      arith,
      c.write_framing.auto.out,
      ap length c.write_framing.ensures,
      length-append (padded_name c.args.header.now.name)
          (framing_tail (header_fields c.args.header.now)),
    )
    in
    rw (c.write_root.ensures, c.write_framing.ensures, c.write_dmp.ensures)
    (layers_are_data 512 (header_fields c.args.header.now) c.args.slots.now (search rules) name
    (search rules) (omega arith) c.requires.priority (omega arith) c.requires.universe_from_1
    c.requires.universe_to_63999)
