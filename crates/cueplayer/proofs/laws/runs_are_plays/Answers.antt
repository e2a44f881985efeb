use Rattle.cueplayer.proofs.Playing.{dry_runs_plays}
use Rattle.cueplayer.proofs.laws.runs_are_plays.Goals as goal

pub returns-clause-dry : goal.returns-clause-dry
returns-clause-dry c = dry_runs_plays
