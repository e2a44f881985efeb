use Rattle.std.proofs.Common.{refl}
use Rattle.network_tables.proofs.choice.CardWord.read.Goals as goal

pub returns-in-Err : goal.returns-in-Err
returns-in-Err c = (refl, λ address is. c.in-Err.ensures address (rw c.as_bytes.ensures.value is))
