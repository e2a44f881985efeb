use Rattle.std.proofs.Common.{◌≡◌, ◌≤◌, [], ◌++◌, length, take, map, flat_map}
use Rattle.std.specs.List.{enumerate_from}
use Rattle.link_notices.specs.Watches.{source_news, source_watch}
use Rattle.link_notices.proofs.link_watch.look_at_sources.Given as goal

abbrev pub invariant-loop-place : goal.invariant-loop-place
invariant-loop-place l = record {
  notices : l.notices.items ≡ [] ++ flat_map (source_news l.watches)
      (take l.place (enumerate_from 0 l.look.sources.items));
  room : length l.notices.items ≤ l.place;
  told : l.after.items ≡ map source_watch (take l.place l.look.sources.items);
}
