use Rattle.show_core.proofs.Terms.{◌≡◌, length, ◌∙◌, arith, with_entries}
use Rattle.show_core.proofs.Entries.{sorted_with_entries, with_entries-fit}
use Rattle.show_core.proofs.many.merge_by.Goals as goal

pub returns : goal.returns
returns g c =
    let es = c.args.entries.now in
    let ps = c.args.new.now in
    let same : length c.overwrite.new.table ≡ length c.args.table.now =
    c.overwrite.auto.table ∙ c.fill.auto.table in
    c.gather.ensures (with_entries g.V.Kept.stays es ps)
    (sorted_with_entries g.V.Kept.stays es ps c.requires.sorted)
    (with_entries-fit g.V.Kept.stays _ es ps
    (λ k d lt. omega (arith, c.requires.entries k d lt, same))
    (λ k d lt. omega (arith, c.requires.new k d lt, same)))
    (c.overwrite.ensures es c.fill.ensures)

pub overwrite-requires : goal.overwrite-requires
overwrite-requires _ c = rw c.fill.auto.table c.requires.new
