use Rattle.show_core.proofs.Terms.{ap, ◌∙◌, map-id, with_all}
use Rattle.std.specs.FinMap as map
use Rattle.show_core.proofs.Entries.{sorted_with_entries, from_sorted-with_entries}
use Rattle.show_core.proofs.Tables.{own_seen}
use Rattle.show_core.proofs.table.Table+u16+V.put_all.Goals as goal

pub invariant_of-self-2 : goal.invariant_of-self-2
invariant_of-self-2 g c =
    rw c.in_ok-put_all.ensures.ok
    (sorted_with_entries g.V.Kept.stays c.self.inside.entries.items c.args.entries.now
    c.self.invariant)

pub returns-clause-ok : goal.returns-clause-ok
returns-clause-ok g c =
    ap map.from_sorted (map-id _ ∙ c.in_ok-put_all.ensures.ok)
    ∙ from_sorted-with_entries g.V.Kept.stays c.self.inside.entries.items c.args.entries.now
    c.self.invariant
    ∙ ap (λ m. with_all g.V.Kept.stays m c.args.entries.now) (own_seen _ c.self.view_is)
