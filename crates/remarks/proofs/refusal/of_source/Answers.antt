use Rattle.remarks.proofs.refusal.of_source.Goals as goal

pub returns : goal.returns
returns c = record { line = c.line_of.ensures; remark = cc }
