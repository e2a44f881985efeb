use Rattle.std.proofs.Common.{◌≡◌}
use Rattle.ascii_text.specs.LinesLeft.{lines_left}
use Rattle.night_files.specs.LockLists.{locking_process}
use Rattle.night_files.proofs.LockSearch.{found}
use Rattle.night_files.proofs.lock_list.locking_process.Given as goal

abbrev pub invariant-loop-line : goal.invariant-loop-line
invariant-loop-line l = locking_process l.node l.list ≡ found l.node (lines_left l.line-iterator)
