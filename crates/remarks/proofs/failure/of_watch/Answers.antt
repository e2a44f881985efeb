use Rattle.remarks.proofs.failure.of_watch.Goals as goal

pub returns-in-Line : goal.returns-in-Line
returns-in-Line c = rw c.in-Line.is c.plain.ensures
