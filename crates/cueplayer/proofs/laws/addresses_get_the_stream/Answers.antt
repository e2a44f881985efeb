use Rattle.cueplayer.proofs.Addresses.{addresses_get, nights_addressed, plays_addressed}
use Rattle.cueplayer.proofs.laws.addresses_get_the_stream.Goals as goal

pub returns-clause-streams : goal.returns-clause-streams
returns-clause-streams c start = addresses_get

pub returns-clause-plays : goal.returns-clause-plays
returns-clause-plays c start = plays_addressed _

pub returns-clause-nights : goal.returns-clause-nights
returns-clause-nights c start = nights_addressed
