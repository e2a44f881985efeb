use Rattle.std.proofs.Common.{[]}
use Rattle.test_program.proofs.Nights.{can_follow}
use Rattle.test_program.proofs.tests.live.again.behind.Goals as goal

pub take_up-requires-clause-real : goal.take_up-requires-clause-real
take_up-requires-clause-real g c =
    can_follow g.F.Fader.stands_for _ _ _ _ c.in-Ok.ensures.opened

pub returns-in-Ok-take_up : goal.returns-in-Ok-take_up
returns-in-Ok-take_up g c =
    let goes = c.in-Ok-take_up.ensures.goes_on in
    let new = can_follow g.F.Fader.stands_for _ _ _ _ c.in-Ok.ensures.opened in
    ((new.0, _, goes.stands new.0 new.1.lines new.1.stands), goes.ready.none_lost)
