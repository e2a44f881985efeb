use Rattle.std.proofs.Common.{◌∙◌, ap}
use Rattle.remarks.proofs.refusal.Refusal.in_use.Goals as goal

pub returns : goal.returns
returns c = record {
  line = ap (λ line. line.bytes) c.by_rule.ensures.line ∙ c.line_in_use.ensures;
  remark = c.by_rule.ensures.remark;
}
