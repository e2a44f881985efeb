use Rattle.std.proofs.Common.{◌∙◌, ap, sym}
use Rattle.std.specs.Prelude.{set}
use Rattle.std.proofs.lemmas.List.Edits.{map_over_more}
use Rattle.packet_paths.specs.Neighbors.{after_row}
use Rattle.packet_paths.proofs.night_paths.show_row.Goals as goal

pub loop-path-preserved : goal.loop-path-preserved
loop-path-preserved c =
    let shown = after_row c.args.row.now in
    let paths = c.loop-path.paths in
    let place = c.loop-path.path-index in
    ap (set paths place) (c.take_row.ensures ∙ ap shown (sym c.path-item.is))
    ∙ map_over_more shown c.args.paths.now paths place c.path-item.result c.loop-path-test.true
    c.loop-path.invariant c.path-item.is
