use Rattle.show_core.proofs.Terms.{sym, ◌∙◌}
use Rattle.show_core.proofs.Sorted.{from_true}
use Rattle.show_core.proofs.Removed.{remove_at, without_gap}
use Rattle.show_core.proofs.place.take_out.Goals as goal

pub returns-in-Ok-clause-items : goal.returns-in-Ok-clause-items
returns-in-Ok-clause-items g c =
    c.remove.ensures.items
    ∙ remove_at g.K.Ord.cmp g.met.K.Ord.total c.args.key c.args.entries.now.items c.in-Ok.at
    (rw c.deref.ensures.value at c.in-Ok.ensures.found) (from_true c.requires)

pub returns-in_default-clause-items : goal.returns-in_default-clause-items
returns-in_default-clause-items g c =
    sym (without_gap g.K.Ord.cmp g.met.K.Ord.total c.args.key c.args.entries.now.items
    c.in_default.field-0 (rw c.deref.ensures.value at c.in_default.ensures.absent))
