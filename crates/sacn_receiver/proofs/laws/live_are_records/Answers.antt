use Rattle.sacn_receiver.proofs.Independent.{live_records, live_apart}
use Rattle.sacn_receiver.proofs.laws.live_are_records.Goals as goal

pub returns : goal.returns
returns c = record { members = live_records; apart = live_apart }
