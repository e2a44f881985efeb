use Rattle.std.proofs.Common.{arith}
use Rattle.std.proofs.lemmas.Grind.{common_steps}
use Rattle.show_reader.proofs.Found.{pairs_more}
use Rattle.show_reader.proofs.draft.Draft.list.Goals as goal

pub returns-clause-ok : goal.returns-clause-ok
returns-clause-ok c = grind (arith, common_steps, pairs_more)
