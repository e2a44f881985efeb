use Rattle.std.proofs.Common.{subst}
use Rattle.std.specs.Net.Grammar.{IsIpv4Text, Parses}
use Rattle.network_tables.proofs.neighbor.Neighbor.read.Goals as goal

pub returns-in_default-2-clause-none : goal.returns-in_default-2-clause-none
returns-in_default-2-clause-none c neighbor is =
    subst (λ r. Parses IsIpv4Text c.field.result.now r) c.in_default.is-0 c.parse_ascii.ensures
    neighbor.address (rw c.field.ensures is.address)
