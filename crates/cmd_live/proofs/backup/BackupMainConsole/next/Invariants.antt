use Rattle.std.proofs.Common.{◌≡◌, ◌<◌, ◌≤◌, length}
use Rattle.cmd_live.specs.Backup.{AreDone, IsTypedFirst, told_by_main}
use Rattle.cmd_live.proofs.backup.BackupMainConsole.next.Given as goal

-- nothing was told yet, though something happened at each turn
abbrev pub invariant-loop-turn : goal.invariant-loop-turn
invariant-loop-turn g l = record {
  told : g.W.MainWatch.tells l.self.watch → g.W.MainWatch.tells l.fn.self.watch;
  same : l.self.patience ≡ l.fn.self.patience;
  untold : g.W.MainWatch.tells l.self.watch
      → told_by_main l.fn.self.patience (g.W.MainWatch.events l.self.watch)
      ≡ told_by_main l.fn.self.patience (g.W.MainWatch.events l.fn.self.watch);
  done : g.W.MainWatch.tells l.self.watch → AreDone (g.W.MainWatch.events l.fn.self.watch)
      → AreDone (g.W.MainWatch.events l.self.watch);
  first : g.W.MainWatch.tells l.self.watch → IsTypedFirst (g.W.MainWatch.events l.fn.self.watch)
      → IsTypedFirst (g.W.MainWatch.events l.self.watch);
  more : g.W.MainWatch.tells l.self.watch
      → l._turn ≤ length (g.W.MainWatch.events l.self.watch);
  few : g.W.MainWatch.tells l.self.watch → l._turn < 18446744073709551615;
}
