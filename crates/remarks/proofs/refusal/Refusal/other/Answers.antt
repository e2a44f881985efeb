use Rattle.std.proofs.Common.{◌∙◌, ℕ, ap}
use Rattle.std.specs.Prelude.{codes}
use Rattle.remarks.specs.Refusals.{number_parts}
use Rattle.remarks.specs.Remarks.{remark_of}
use Rattle.remarks.proofs.refusal.Refusal.other.Goals as goal

pub returns-in-Base : goal.returns-in-Base
returns-in-Base c =
    let told = λ (theirs ours : ℕ). remark_of (number_parts (codes "--base ") theirs ours) in
    let given = c.of_number-in-Base.ensures in
    rw c.in-Base.is (record {
      line = given.line;
      remark =
          given.remark ∙ ap (λ n. told n c.from-ours-in-Base.result) c.from-theirs-in-Base.ensures
          ∙ ap (λ n. told c.args.head.now.base n) c.from-ours-in-Base.ensures;
    })
