use Rattle.std.proofs.lemmas.List.{drop-replicate}
use Rattle.sacn_packet.proofs.source_name.write_name.Goals as goal

pub returns : goal.returns
returns c = rw (c.copy_from_slice.ensures.after, c.requires.empty, drop-replicate)
