use Rattle.cmd_listen.proofs.Terms.{◌≡◌, ◌++◌, take, flat_map, news}
use Rattle.cmd_listen.proofs.news.push_news.Given as goal

-- the lines so far
abbrev pub invariant-loop-source : goal.invariant-loop-source
invariant-loop-source l = l.text.items
    ≡ l.fn.text.items ++ flat_map (news l.head l.before l.after) (take l.source-index l.after)
