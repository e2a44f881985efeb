-- How an address of this machine is.
use Rattle.std.specs.Prelude.{Bool, if◌then◌else◌}
use Rattle.network_tables.specs.declared.card.CardState.{CardState}
use Rattle.network_tables.specs.declared.card.CardState.TheVariants as card
use Rattle.link_notices.specs.declared.source.SourceState.{SourceState}
use Rattle.link_notices.specs.declared.source.SourceState.TheVariants as source

-- by how its card is, and whether the machine has the address: one whose card is down is not asked
-- for
abbrev pub source_state : CardState → Bool → SourceState
source_state card.Down is_of_machine = source.Down
source_state card.NoLink is_of_machine = if is_of_machine then source.NoLink else source.Lost
source_state card.Up is_of_machine = if is_of_machine then source.Sends else source.Lost
