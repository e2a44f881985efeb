use Rattle.remarks.proofs.Choices.{many_down}
use Rattle.remarks.proofs.card.unknown_card.Goals as goal

pub returns-then-down-eq0 : goal.returns-then-down-eq0
returns-then-down-eq0 c = rw c.if-down-eq0.true cc

pub returns-then-down-eq1 : goal.returns-then-down-eq1
returns-then-down-eq1 c = rw c.if-down-eq1.true cc

pub returns-else-down-eq1 : goal.returns-else-down-eq1
returns-else-down-eq1 c =
    rw (many_down c.args.down.count c.args.address.now c.args.down.names.now
    c.if-down-eq0.false c.if-down-eq1.false) cc
