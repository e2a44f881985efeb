use Rattle.test_program.proofs.Nights.{playable}
use Rattle.test_program.proofs.tests.live.again.begins_with.Goals as goal

pub returns-in-Ok : goal.returns-in-Ok
returns-in-Ok g c =
    let begins = c.in-Ok.ensures.begins in
    let new = playable g.F.Fader.stands_for _ _ _ _ c.in_ok-night.ensures.opened in
    ((new.0.0, _, begins.stands new.0.0 new.0.1 new.0.2), begins.none_lost)
