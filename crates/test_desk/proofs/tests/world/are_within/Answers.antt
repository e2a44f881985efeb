use Rattle.std.proofs.Common.{sym, ◌∙◌}
use Rattle.std.proofs.lemmas.List.Folds.{list_all-map}
use Rattle.wire_world.specs.Refusing.{stray_fits}
use Rattle.wire_world.specs.Widened.{happening}
use Rattle.test_desk.proofs.tests.world.are_within.Goals as goal

pub returns : goal.returns
returns g =
    g.all_fit.ensures ∙ sym (list_all-map (λ e. stray_fits g.args.size e.what) happening
    g.args.events.now)
