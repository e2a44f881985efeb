use Rattle.std.proofs.Common.{◌≤◌, ◌^◌, arith}
use Rattle.std.proofs.Math.Nat.{pow-le-pow_right}
use Rattle.std.proofs.lemmas.Grind.{common_steps}
use Rattle.std.proofs.lemmas.List.Folds.{list_all_more}
use Rattle.std.proofs.lemmas.Int.Digits.{digits_value_more}
use Rattle.ascii_text.proofs.forms.digits.Goals as goal

pub overflow_mul-value : goal.overflow_mul-value
overflow_mul-value c =
    let p : 10 ^ c.loop-digit.digit-index ≤ 10 ^ 18
    = pow-le-pow_right (omega arith) {i = c.loop-digit.digit-index} {j = 18} (omega arith) in
    omega arith

pub overflow_add-value : goal.overflow_add-value
overflow_add-value c =
    let p : 10 ^ c.loop-digit.digit-index ≤ 10 ^ 18
    = pow-le-pow_right (omega arith) {i = c.loop-digit.digit-index} {j = 18} (omega arith) in
    grind (arith, common_steps)

pub loop-digit-preserved : goal.loop-digit-preserved
loop-digit-preserved c = grind (arith, common_steps, list_all_more, digits_value_more)
