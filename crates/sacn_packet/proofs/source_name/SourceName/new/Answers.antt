use Rattle.std.proofs.Common.{rules}
use Rattle.sacn_packet.specs.Name.{IsSourceName}
use Rattle.sacn_packet.proofs.Names.{name_in-padded}
use Rattle.sacn_packet.proofs.source_name.SourceName.new.Goals as goal

pub invariant_of-result : goal.invariant_of-result
invariant_of-result c =
    let fits : IsSourceName c.as_bytes-text.result.now = search rules in
    rw (c.write_name.ensures, name_in-padded _ fits)

pub returns : goal.returns
returns c =
    let fits : IsSourceName c.as_bytes-text.result.now = search rules in
    let same : IsSourceName c.args.name.now = rw c.as_bytes-text.ensures.value at fits in
    rw (c.write_name.ensures, c.as_bytes-text.ensures.value) (same, name_in-padded _ same)
