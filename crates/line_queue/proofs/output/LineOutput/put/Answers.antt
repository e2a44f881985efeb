use Rattle.line_queue.proofs.Handed.{open_changes}
use Rattle.line_queue.proofs.output.LineOutput.put.Goals as goal

pub returns-in-Some : goal.returns-in-Some
returns-in-Some g c = open_changes _ _ _ c.put.new.self c.in-Some.is c.put.ensures.puts
