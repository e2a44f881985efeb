use Rattle.playback_core.proofs.Due.{none_left}
use Rattle.playback_core.proofs.laws.none_is_left_due.Goals as goal

pub returns : goal.returns
returns c = none_left
