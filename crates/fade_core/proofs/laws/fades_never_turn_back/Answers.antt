use Rattle.fade_core.proofs.Fade.{level_after_towards}
use Rattle.fade_core.proofs.laws.fades_never_turn_back.Goals as goal

pub returns : goal.returns
returns c = level_after_towards
