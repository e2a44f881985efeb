use Rattle.line_queue.proofs.Handed.{open_changes}
use Rattle.line_queue.proofs.output.LineOutput.take.Goals as goal

pub returns-in-Some : goal.returns-in-Some
returns-in-Some g c = open_changes _ _ _ c.take.new.self c.in-Some.is c.take.ensures.takes
