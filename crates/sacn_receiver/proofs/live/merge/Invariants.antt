use Rattle.std.proofs.Common.{◌≡◌, ℕ, ◌<◌, take, get_or}
use Rattle.sacn_receiver.proofs.Merging.{greatest_lit}
use Rattle.sacn_receiver.proofs.live.merge.Given as goal

-- each slot is the greatest of the records so far
abbrev pub invariant-loop-record : goal.invariant-loop-record
invariant-loop-record l = (s : ℕ) → s < 512 → get_or l.out s 0
    ≡ greatest_lit l.moment l.top s (take l.record-index l.records)
