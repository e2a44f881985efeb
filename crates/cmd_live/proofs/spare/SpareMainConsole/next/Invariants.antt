use Rattle.std.proofs.Common.{◌≡◌, ◌<◌, ◌≤◌, length}
use Rattle.cmd_live.specs.Spare.{told_by_record}
use Rattle.cmd_live.proofs.spare.SpareMainConsole.next.Given as goal

-- nothing was told yet, though something happened at each turn
abbrev pub invariant-loop-turn : goal.invariant-loop-turn
invariant-loop-turn g l = record {
  told : g.R.PlayedRecord.tells l.self.record → g.R.PlayedRecord.tells l.fn.self.record;
  untold : g.R.PlayedRecord.tells l.self.record → told_by_record (g.R.PlayedRecord.events
      l.self.record) ≡ told_by_record (g.R.PlayedRecord.events l.fn.self.record);
  more : g.R.PlayedRecord.tells l.self.record
      → l._turn ≤ length (g.R.PlayedRecord.events l.self.record);
  few : g.R.PlayedRecord.tells l.self.record → l._turn < 18446744073709551615;
}
