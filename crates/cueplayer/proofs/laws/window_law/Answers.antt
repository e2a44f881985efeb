use Rattle.cueplayer.proofs.Showing.{silence_dark}
use Rattle.cueplayer.proofs.laws.window_law.Goals as goal

pub returns-clause-silence : goal.returns-clause-silence
returns-clause-silence c = silence_dark
