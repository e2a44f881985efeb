use Rattle.std.proofs.Common.{◌≡◌, []}
use Rattle.wire_world.proofs.Terms.{World, AllAre, HasReplayed, StageStands, LinkTells}
use Rattle.wire_world.proofs.Wants.{AllHold}
use Rattle.wire_world.proofs.replay.run.Given as goal

abbrev pub invariant-loop-i : goal.invariant-loop-i
invariant-loop-i g l = AllHold l.stages l.events l.i × ((w : World) → w.strays ≡ l.strays
    → AllAre (StageStands g.F.Fader.stands_for) LinkTells l.fn.stages l.fn.receivers w []
    → HasReplayed (StageStands g.F.Fader.stands_for) LinkTells l.stages l.receivers l.last
    l.replies.items w l.events l.i)
