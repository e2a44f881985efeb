use Rattle.std.proofs.Common.{◌≡◌, take, map}
use Rattle.link_notices.specs.Watches.{start_watch}
use Rattle.link_notices.proofs.link_watch.start_watches.Given as goal

abbrev pub invariant-loop-path : goal.invariant-loop-path
invariant-loop-path l = l.watches.items ≡ map start_watch (take l.path-index l.start.paths.items)
