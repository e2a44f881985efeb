use Rattle.std.proofs.Common.{◌≡◌, All}
use Rattle.wire_world.proofs.Terms.{HasOpened, StageStands, LinkTells}
use Rattle.wire_world.proofs.opening.open_all.Given as goal

abbrev pub invariant-loop-i : goal.invariant-loop-i
invariant-loop-i g l =
    (HasOpened (StageStands g.F.Fader.stands_for) LinkTells l.stages.items l.shows
    l.setups l.i) × All (λ stage. stage.last ≡ l.last) l.stages.items
