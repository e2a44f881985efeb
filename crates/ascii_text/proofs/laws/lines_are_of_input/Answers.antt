use Rattle.ascii_text.proofs.InputLines.{lines_are}
use Rattle.ascii_text.proofs.laws.lines_are_of_input.Goals as goal

pub returns : goal.returns
returns c = lines_are
