-- What is told of a weight, by what it has.
use Rattle.std.proofs.Common.{◌≡◌, ◌≢◌, ◌∷◌, [], arith}
use Rattle.std.proofs.lemmas.Bool.Decides.{nat_tests}
use Rattle.std.specs.Prelude.{codes, decimal}
use Rattle.cmd_explain.specs.declared.weight.Weight.{Weight}
use Rattle.remarks.specs.Remarks.{remark_of}
use Rattle.remarks.specs.Weights.{line_words, note_words, of_weight}

pub lines_alone : (weight : Weight) → weight.notes ≡ 0 → of_weight weight
    ≡ remark_of (decimal weight.unknown_lines ∷ line_words weight.unknown_lines
    ∷ codes ": see cueplayer explain" ∷ [])
lines_alone weight none = grind (arith, nat_tests)

pub notes_alone : (weight : Weight) → weight.notes ≢ 0 → weight.unknown_lines ≡ 0
    → of_weight weight
    ≡ remark_of (decimal weight.notes ∷ note_words weight.notes
    ∷ codes ": see cueplayer explain" ∷ [])
notes_alone weight some none = grind (arith, nat_tests)

pub notes_and_lines : (weight : Weight) → weight.notes ≢ 0 → weight.unknown_lines ≢ 0
    → of_weight weight
    ≡ remark_of (decimal weight.notes ∷ note_words weight.notes ∷ codes ", "
    ∷ decimal weight.unknown_lines ∷ line_words weight.unknown_lines
    ∷ codes ": see cueplayer explain" ∷ [])
notes_and_lines weight some more = grind (arith, nat_tests)
