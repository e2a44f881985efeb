use Rattle.std.proofs.Common.{◌≡◌, ◌≤◌, [], ◌++◌, length, take, flat_map}
use Rattle.std.specs.List.{enumerate_from}
use Rattle.link_notices.specs.Watches.{source_again}
use Rattle.link_notices.proofs.link_watch.sources_again.Given as goal

abbrev pub invariant-loop-place : goal.invariant-loop-place
invariant-loop-place l = record {
  notices : l.notices.items ≡ [] ++ flat_map (source_again l.watches)
      (take l.place (enumerate_from 0 l.look.sources.items));
  room : length l.notices.items ≤ l.place;
}
