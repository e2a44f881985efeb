use Rattle.remarks.proofs.Weighing.{lines_alone, notes_alone, notes_and_lines}
use Rattle.remarks.proofs.weight.of_weight.Goals as goal

pub returns-then-weight-eq0 : goal.returns-then-weight-eq0
returns-then-weight-eq0 c = cc (lines_alone c.args.weight c.if-weight-eq0.true)

pub returns-then-weight-eq0-2 : goal.returns-then-weight-eq0-2
returns-then-weight-eq0-2 c =
    cc (notes_alone c.args.weight c.if-weight-eq0.false c.if-weight-eq0-2.true)

pub returns-else-weight-eq0-2 : goal.returns-else-weight-eq0-2
returns-else-weight-eq0-2 c =
    cc (notes_and_lines c.args.weight c.if-weight-eq0.false c.if-weight-eq0-2.false)
