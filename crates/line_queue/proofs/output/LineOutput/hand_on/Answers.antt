use Rattle.line_queue.proofs.Handed.{open_changes}
use Rattle.line_queue.proofs.output.LineOutput.hand_on.Goals as goal

pub returns-in-Some : goal.returns-in-Some
returns-in-Some g c = open_changes _ _ _ c.hand_on.new.self c.in-Some.is c.hand_on.ensures
