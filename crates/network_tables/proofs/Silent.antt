-- A silent way stays silent until its first taker is known to answer.
use Rattle.std.proofs.Common.{◌≡◌, Bool, true, false, ◌&&◌, cond, [], ◌∷◌, refl, Some}
use Rattle.std.proofs.Common.{arith, ap, ◌∙◌}
use Rattle.std.specs.Prelude.{fold, min, ◌+◌}
use Rattle.std.proofs.lemmas.List.Elements.{All-head, All-tail}
use Rattle.network_tables.specs.Neighbors.{SilenceLaw, is_answer, is_of_taker}
use Rattle.network_tables.specs.Neighbors.{silence_by}

counted : (has_link is_its has_answered : Bool) → is_its && has_answered ≡ false
    → cond (has_link && is_its) (cond has_answered 0 (min (2 + 1) 2)) 2 ≡ 2
counted false is_its has_answered h = refl
counted true false has_answered h = refl
counted true true false h = refl
counted true true true h = absurd (grind (arith, h))

pub stays_silent : SilenceLaw
stays_silent taker has_link [] h = refl
stays_silent taker has_link (row ∷ rows) h =
    let here = All-head (λ row. is_answer (Some taker) row ≡ false) row rows h in
    let later = All-tail (λ row. is_answer (Some taker) row ≡ false) row rows h in
    ap (λ silence. fold (λ s r. silence_by r (Some taker) has_link s) silence rows)
    (counted has_link (is_of_taker (Some taker) row) row.has_answered here)
    ∙ stays_silent taker has_link rows later
