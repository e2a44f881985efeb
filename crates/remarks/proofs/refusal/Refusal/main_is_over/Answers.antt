use Rattle.std.proofs.Common.{◌∙◌, ap}
use Rattle.remarks.proofs.refusal.Refusal.main_is_over.Goals as goal

pub returns : goal.returns
returns c = record {
  line = ap (λ line. line.bytes) c.by_rule.ensures.line ∙ c.line_of.ensures;
  remark = c.by_rule.ensures.remark;
}
