use Rattle.test_program.proofs.Nights.{can_follow}
use Rattle.test_program.proofs.tests.live.follow.follow.Goals as goal

pub follow-pause-requires-clause-real : goal.follow-pause-requires-clause-real
follow-pause-requires-clause-real g c =
    can_follow g.F.Fader.stands_for _ _ _ _ c.in-Ok.ensures.opened
