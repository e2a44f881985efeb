use Rattle.show_core.proofs.Terms.{ap, ◌∙◌, reverse, nat_lt}
use Rattle.std.specs.Prelude.{find, map as map_list}
use Rattle.show_core.proofs.Sorted.{map-reverse}
use Rattle.show_core.proofs.cue_table.CueTable.before.Goals as goal

pub returns : goal.returns
returns c =
    c.last_below.ensures
    ∙ ap (find (λ k. nat_lt k c.args.n)) (map-reverse (λ x. x.0) c.entries.result.now)
    ∙ ap (λ es. find (λ k. nat_lt k c.args.n) (reverse (map_list (λ x. x.0) es))) c.entries.ensures
