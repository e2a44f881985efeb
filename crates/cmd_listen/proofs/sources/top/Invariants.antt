use Rattle.cmd_listen.proofs.Terms.{◌≡◌, map, take, greatest}
use Rattle.cmd_listen.proofs.sources.top.Given as goal

-- the greatest so far
abbrev pub invariant-loop-source : goal.invariant-loop-source
invariant-loop-source l =
    l.top ≡ greatest (map (λ s. s.priority) (take l.source-index l.sources))
