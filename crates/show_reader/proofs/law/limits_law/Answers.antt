use Rattle.show_reader.proofs.Limits.{reads_alike}
use Rattle.show_reader.proofs.law.limits_law.Goals as goal

pub returns : goal.returns
returns c = reads_alike
