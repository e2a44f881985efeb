use Rattle.std.proofs.Common.{◌∙◌, ap}
use Rattle.remarks.specs.Failures.{script_rule}
use Rattle.remarks.specs.TextLines.{of_line}
use Rattle.remarks.proofs.failure.of_rehearsal.Goals as goal

pub returns-in-Line : goal.returns-in-Line
returns-in-Line c =
    rw c.in-Line.is (c.of_line.ensures
    ∙ ap (λ n. of_line n c.args.script.now script_rule) c.from.ensures)

pub returns-in-Script : goal.returns-in-Script
returns-in-Script c = rw c.in-Script.is c.plain.ensures
