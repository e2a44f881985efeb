use Rattle.cmd_listen.proofs.Terms.{◌≡◌, ◌++◌, take, flat_map, enumerate_from, count_line}
use Rattle.cmd_listen.proofs.ignored.push_counts.Given as goal

-- the counts so far
abbrev pub invariant-loop-place : goal.invariant-loop-place
invariant-loop-place l = l.text.items ≡ l.fn.text.items
    ++ flat_map (count_line l.head) (take l.place (enumerate_from 0 l.counts))
