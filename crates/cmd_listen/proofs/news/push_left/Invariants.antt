use Rattle.cmd_listen.proofs.Terms.{◌≡◌, ◌++◌, take, flat_map, left_line}
use Rattle.cmd_listen.proofs.news.push_left.Given as goal

-- the lines so far
abbrev pub invariant-loop-source : goal.invariant-loop-source
invariant-loop-source l = l.text.items
    ≡ l.fn.text.items ++ flat_map (left_line l.head l.word l.after) (take l.source-index l.before)
