use Rattle.std.proofs.Common.{◌≡◌, ◌≤◌, ◌+◌, ◌++◌, length, take, flat_map}
use Rattle.std.specs.List.{enumerate_from}
use Rattle.link_notices.specs.Watches.{path_again}
use Rattle.link_notices.proofs.link_watch.paths_again.Given as goal

abbrev pub invariant-loop-place : goal.invariant-loop-place
invariant-loop-place l = record {
  notices : l.notices.items ≡ l.fn.notices.items
      ++ flat_map (path_again l.look.sources.items l.watches)
      (take l.place (enumerate_from 0 l.look.paths.items));
  room : length l.notices.items ≤ 8 + l.place;
}
