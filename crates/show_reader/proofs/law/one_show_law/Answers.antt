use Rattle.show_reader.proofs.OneShow.{same_show}
use Rattle.show_reader.proofs.law.one_show_law.Goals as goal

pub returns : goal.returns
returns c = same_show
