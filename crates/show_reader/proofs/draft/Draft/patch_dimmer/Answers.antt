use Rattle.std.proofs.Common.{arith}
use Rattle.std.proofs.lemmas.Grind.{common_steps}
use Rattle.show_reader.proofs.Found.{patched_last}
use Rattle.show_reader.proofs.draft.Draft.patch_dimmer.Goals as goal

pub returns-clause-ok : goal.returns-clause-ok
returns-clause-ok c = grind (arith, common_steps, patched_last)
