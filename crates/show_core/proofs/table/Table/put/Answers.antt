use Rattle.show_core.proofs.Sorted.{sorted_put}
use Rattle.show_core.proofs.Tables.{put_seen}
use Rattle.show_core.proofs.table.Table.put.Goals as goal

pub invariant_of-self-2 : goal.invariant_of-self-2
invariant_of-self-2 g c =
    rw c.in_ok-put.ensures.ok
    (sorted_put g.K.Ord.cmp g.met.K.Ord.total _ c.self.invariant c.args.key c.args.value)

pub returns-clause-ok : goal.returns-clause-ok
returns-clause-ok g c =
    rw c.in_ok-put.ensures.ok
    (put_seen g.met.K.Key.compared _ c.self.view_is c.self.invariant c.args.key c.args.value)
