-- Lines that are told one behind the other.
use Rattle.std.proofs.Common.{◌≡◌, ◌∙◌, ap, refl, sym, ℕ, ◌+◌, ◌<◌, nat_eq, List, [], ◌∷◌, ◌++◌}
use Rattle.std.proofs.Common.{append-nil, append_assoc, drop, filter_map, get_or, length}
use Rattle.std.proofs.lemmas.List.{at_drop_more}
use Rattle.std.specs.List.{cons_option}
use Rattle.std.specs.Option.{option_to_list}
use Rattle.std.specs.Prelude.{Option, Some, None, option_map, if◌then◌else◌}

pub behind : (before now new first second : List (List ℕ)) → new ≡ now ++ second
    → now ≡ before ++ first → new ≡ before ++ (first ++ second)
behind before now new first second later earlier =
    later ∙ ap (λ lines. lines ++ second) earlier ∙ append_assoc before first second

-- of a show without a cue, what its file seems to be
pub seeming : {A : Type 0} (text : A → List ℕ) (line : A) (what : Option A) (cues : ℕ)
    → what ≡ Some line → cues ≡ 0 → text line ∷ []
    ≡ (if nat_eq cues 0 then option_to_list (option_map text what) else [])
seeming text line what cues is none = rw (is, none) refl

joined : (now rest : List (List ℕ)) (line : Option (List ℕ))
    → (now ++ option_to_list line) ++ rest ≡ now ++ cons_option line rest
joined now rest None = ap (λ lines. lines ++ rest) (append-nil now)
joined now rest (Some line) = append_assoc now (line ∷ []) rest

-- the lines of a list, and what one more of its elements gives
pub one_more : {A : Type 0} (line : A → Option (List ℕ)) (xs : List A) (i : ℕ) (x : A)
    (all now new : List (List ℕ)) → i < length xs → x ≡ get_or xs i x
    → now ++ filter_map line (drop i xs) ≡ all → new ≡ now ++ option_to_list (line x)
    → new ++ filter_map line (drop (i + 1) xs) ≡ all
one_more line xs i x all now new within is before told =
    let rest = filter_map line (drop (i + 1) xs) in
    ap (λ lines. lines ++ rest) told ∙ joined now rest (line x)
    ∙ ap (λ y. now ++ cons_option (line y) rest) is
    ∙ ap (λ lines. now ++ lines) (sym (at_drop_more (filter_map line) xs i x within)) ∙ before
