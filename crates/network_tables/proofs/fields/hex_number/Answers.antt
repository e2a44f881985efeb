use Rattle.std.proofs.Common.{◌≤◌, ◌^◌, arith}
use Rattle.std.proofs.Math.Nat.{pow-le-pow_right}
use Rattle.std.proofs.lemmas.Grind.{common_steps}
use Rattle.std.proofs.lemmas.List.Folds.{list_all_more}
use Rattle.std.proofs.lemmas.Int.Digits.{digits_value_more}
use Rattle.network_tables.proofs.fields.hex_number.Goals as goal

pub overflow_mul-number : goal.overflow_mul-number
overflow_mul-number c =
    let p : 16 ^ c.loop-digit.digit-index ≤ 16 ^ 7
    = pow-le-pow_right (omega arith) {i = c.loop-digit.digit-index} {j = 7} (omega arith) in
    omega arith

pub overflow_add-number : goal.overflow_add-number
overflow_add-number c =
    let p : 16 ^ c.loop-digit.digit-index ≤ 16 ^ 7
    = pow-le-pow_right (omega arith) {i = c.loop-digit.digit-index} {j = 7} (omega arith) in
    grind (arith, common_steps)

pub loop-digit-preserved : goal.loop-digit-preserved
loop-digit-preserved c = grind (arith, common_steps, list_all_more, digits_value_more)
