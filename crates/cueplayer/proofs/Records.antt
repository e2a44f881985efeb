-- A text of lines that a live night gave is taken up.
use Rattle.cueplayer.proofs.Terms.{◌≡◌, ℕ, ap, List, [], ◌∷◌, ◌++◌, append_assoc, fold, refl}
use Rattle.cueplayer.proofs.Terms.{◌==◌, cond_both, fold-append, Cut, cut_of, with_byte}
use Rattle.cueplayer.proofs.Terms.{AreRecalled, IsRecalled, recall_of, records_recalled}
use Rattle.cueplayer.proofs.Terms.{RecordsAreTakenUp}

-- the lines in front of a record are one
older_recalled : (later older : List (List ℕ)) → AreRecalled (later ++ older) → AreRecalled older
older_recalled [] older are = are
older_recalled (line ∷ later) older are = older_recalled later older are.1

line_recalled : (later more lines older : List (List ℕ)) (line : List ℕ)
    → AreRecalled (later ++ (more ++ line ∷ lines) ++ older)
    → IsRecalled line (recall_of (lines ++ older))
line_recalled later more lines older line are =
    let behind : List (List ℕ) = line ∷ (lines ++ older) in
    let all = older_recalled later (more ++ behind) (simp append_assoc at are) in
    (older_recalled more behind all).0

-- lines stay where more bytes come
abbrev Adds : List (List ℕ) → List (List ℕ) → Type 0
Adds old new = (more : List (List ℕ)) × (new ≡ more ++ old)

lines_more : (old : List (List ℕ)) (cut : Cut) (bytes : List ℕ) → Adds old cut.lines
    → Adds old (fold with_byte cut bytes).lines
lines_more old cut [] adds = adds
lines_more old cut (b ∷ bytes) adds = lines_more old (with_byte cut b) bytes
    (cond_both (b == 10) _ _ (λ (it : Cut). Adds old it.lines)
    (λ lf. (cut.rest ∷ adds.0, ap (λ lines. cut.rest ∷ lines) adds.1)) (λ other. adds))

pub taken_up : RecordsAreTakenUp
taken_up h text later older number given stops =
    let cut = cut_of stops.front in
    let more = lines_more (cut.rest ∷ cut.lines) (with_byte cut 10) stops.rest ([], refl) in
    let lines : (cut_of text).lines ≡ more.0 ++ cut.rest ∷ cut.lines =
    rw (stops.text_is, fold-append with_byte) more.1 in
    let all = rw (given, lines) at (records_recalled h) in
    stops.other (line_recalled later more.0 cut.lines older cut.rest all)
