-- What is told of a show that may mean something else than is played.
use Rattle.std.specs.Prelude.{◌≡◌, ◌≤◌, ◌⊎◌, ℕ, List, [], ◌∷◌, ◌==◌, codes, decimal, if◌then◌else◌}
use Rattle.std.specs.Prelude.{Result, Ok, Err}
use Rattle.cmd_explain.specs.declared.weight.Weight.{Weight}
use Rattle.remarks.specs.Remarks.{remark_of}
use Rattle.remarks.specs.declared.failure.JobFault.{JobFault}
use Rattle.remarks.specs.declared.failure.JobFault.TheVariants.{Doubts}

-- what stands behind the number of notes
abbrev pub note_words : ℕ → List ℕ
note_words notes = if notes == 1 then codes " note of weight" else codes " notes of weight"

-- what stands behind the number of lines
abbrev pub line_words : ℕ → List ℕ
line_words lines = if lines == 1
    then codes " line with an unknown keyword"
    else codes " lines with an unknown keyword"

-- how many notes and lines there are; of notes and lines that are none nothing is told
abbrev pub of_weight : Weight → List ℕ
of_weight weight =
    let notes = decimal weight.notes in
    let lines = decimal weight.unknown_lines in
    let see = codes ": see cueplayer explain" in
    if weight.notes == 0 then remark_of (lines ∷ line_words weight.unknown_lines ∷ see ∷ [])
    else (if weight.unknown_lines == 0 then remark_of (notes ∷ note_words weight.notes ∷ see ∷ [])
    else remark_of (notes ∷ note_words weight.notes ∷ codes ", "
    ∷ lines ∷ line_words weight.unknown_lines ∷ see ∷ []))

-- how a strict check of a show ends: well where there are neither notes of weight nor lines with an
-- unknown keyword, and else in doubt, with how many of both there are
abbrev pub IsStrictEnd : Weight → Result Unit JobFault → Type 0
IsStrictEnd weight (Ok done) = (weight.notes ≡ 0) × (weight.unknown_lines ≡ 0)
IsStrictEnd weight (Err (Doubts remark)) =
    ((1 ≤ weight.notes) ⊎ (1 ≤ weight.unknown_lines)) × (remark.items ≡ of_weight weight)
IsStrictEnd weight (Err _) = ⊥
