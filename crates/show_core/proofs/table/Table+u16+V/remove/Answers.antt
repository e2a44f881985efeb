use Rattle.show_core.proofs.Terms.{ap, ◌∙◌, nat_cmp, nat_cmp_total, map-id}
use Rattle.std.specs.FinMap as map
use Rattle.show_core.proofs.Removed.{sorted_without, from_sorted-without}
use Rattle.show_core.proofs.Tables.{own_seen}
use Rattle.show_core.proofs.table.Table+u16+V.remove.Goals as goal

pub invariant_of-self : goal.invariant_of-self
invariant_of-self g c =
    rw c.take_out.ensures.items
    (sorted_without nat_cmp nat_cmp_total c.args.key c.self.inside.entries.items c.self.invariant)

pub returns : goal.returns
returns g c =
    ap map.from_sorted (map-id _ ∙ c.take_out.ensures.items)
    ∙ from_sorted-without nat_cmp nat_cmp_total c.args.key map.nat_cmp-IsAntisymmetric
    c.self.inside.entries.items c.self.invariant
    ∙ ap (λ m. map.remove m c.args.key) (own_seen _ c.self.view_is)
