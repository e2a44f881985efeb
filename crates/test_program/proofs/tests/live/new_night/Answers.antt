use Rattle.test_program.proofs.Nights.{if_playable}
use Rattle.test_program.proofs.tests.live.new_night.Goals as goal

pub returns : goal.returns
returns g c = if_playable g.F.Fader.stands_for _ _ _ c.open.result c.open.ensures.opened
