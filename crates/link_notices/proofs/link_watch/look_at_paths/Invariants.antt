use Rattle.std.proofs.Common.{◌≡◌, ◌≤◌, ◌+◌, ◌++◌, length, take, map, flat_map}
use Rattle.std.specs.List.{enumerate_from}
use Rattle.link_notices.specs.Watches.{path_news, path_watch}
use Rattle.link_notices.proofs.link_watch.look_at_paths.Given as goal

abbrev pub invariant-loop-place : goal.invariant-loop-place
invariant-loop-place l = record {
  notices : l.notices.items ≡ l.fn.notices.items
      ++ flat_map (path_news l.look.sources.items l.watches)
      (take l.place (enumerate_from 0 l.look.paths.items));
  room : length l.notices.items ≤ 8 + l.place;
  told : l.after.items ≡ map (path_watch l.look.sources.items l.watches)
      (take l.place (enumerate_from 0 l.look.paths.items));
}
