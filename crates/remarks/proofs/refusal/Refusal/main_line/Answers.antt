use Rattle.std.proofs.Common.{◌∙◌, ap}
use Rattle.remarks.proofs.refusal.Refusal.main_line.Goals as goal

pub returns : goal.returns
returns c = record {
  line = ap (λ line. line.bytes) c.by_rule.ensures.line ∙ c.unlike_line.ensures;
  remark = c.by_rule.ensures.remark;
}
