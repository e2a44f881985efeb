use Rattle.std.proofs.Common.{◌≡◌, take}
use Rattle.sacn_receiver.specs.Records.{top_at}
use Rattle.sacn_receiver.proofs.live.top_priority.Given as goal

abbrev pub invariant-loop-record : goal.invariant-loop-record
invariant-loop-record l = l.top ≡ top_at l.moment (take l.record-index l.records)
