use Rattle.std.proofs.Common.{◌+◌, ◌++◌, ◌∷◌, [], ◌/◌, ◌%◌, append_assoc, refl, ◌∙◌, arith}
use Rattle.sacn_receiver.proofs.Digits.{one_digit, two_digits, three_digits}
use Rattle.sacn_receiver.proofs.slots.push_number.Goals as goal
use Rattle.sacn_receiver.proofs.slots.push_number.Goals.{then-number-ge100, else-number-ge100}
use Rattle.sacn_receiver.proofs.slots.push_number.Goals.{then-number-ge10, else-number-ge10}

pub returns-clause-text : goal.returns-clause-text
returns-clause-text c =
    let n = c.args.number in
    let text = c.args.line.now.bytes in
    c.push_digit-2.ensures
    ∙ elim c.if-number-ge10.branch [
      | then-number-ge10 v ↦ rw (v.line-is, v.push_digit-then-number-ge10.ensures)
          elim c.if-number-ge100.branch [
            | then-number-ge100 w ↦ rw (
              w.line-is,
              w.push_digit.ensures,
              three_digits n (omega (arith, w.if-number-ge100.true)) c.requires.small,
            )
                (append_assoc (text ++ (48 + n / 100) ∷ []) ((48 + n / 10 % 10) ∷ [])
                ((48 + n % 10) ∷ [])
                ∙ append_assoc text ((48 + n / 100) ∷ [])
                ((48 + n / 10 % 10) ∷ (48 + n % 10) ∷ []))
            | else-number-ge100 w ↦ rw (
              w.line-is,
              two_digits n (omega (arith, v.if-number-ge10.true))
                  (omega (arith, w.if-number-ge100.false)),
            )
                (append_assoc text ((48 + n / 10 % 10) ∷ []) ((48 + n % 10) ∷ []))
          ]
      | else-number-ge10 v ↦ rw (v.line-is)
          elim c.if-number-ge100.branch [
            | then-number-ge100 w ↦ absurd (omega (
              arith,
              v.if-number-ge10.false,
              w.if-number-ge100.true,
            ))
            | else-number-ge100 w ↦ rw (
              w.line-is,
              one_digit n (omega (arith, v.if-number-ge10.false)),
            ) refl
          ]
    ]
