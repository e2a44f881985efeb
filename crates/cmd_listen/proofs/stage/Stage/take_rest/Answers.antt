use Rattle.cmd_listen.proofs.Terms.{◌∙◌, sym}
use Rattle.cmd_listen.proofs.Taking.{rest_none}
use Rattle.cmd_listen.proofs.stage.Stage.take_rest.Goals as goal

pub returns-then-is_empty-clause-taken : goal.returns-then-is_empty-clause-taken
returns-then-is_empty-clause-taken g c =
    rest_none c.args.self.now.pending.items (sym c.is_empty.ensures ∙ c.if-is_empty.true)

pub returns-clause-taken : goal.returns-clause-taken
returns-clause-taken g c =
    rw (sym c.is_empty.ensures ∙ c.if-is_empty.false) c.take_bytes.ensures.taken

pub returns-clause-ended : goal.returns-clause-ended
returns-clause-ended g c =
    rw (sym c.is_empty.ensures ∙ c.if-is_empty.false) c.take_bytes.ensures.ended
