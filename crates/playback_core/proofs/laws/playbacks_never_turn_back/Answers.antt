use Rattle.playback_core.proofs.Levels.{playback_level_towards}
use Rattle.playback_core.proofs.laws.playbacks_never_turn_back.Goals as goal

pub returns : goal.returns
returns c = playback_level_towards
