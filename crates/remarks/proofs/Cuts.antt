-- Lists that are cut.
use Rattle.std.proofs.Common.{◌≡◌, ◌∙◌, ◌++◌, ◌∷◌, ◌+◌, ◌<◌, ◌≤◌, Bor, ℕ, zero, suc, List, [], ap}
use Rattle.std.proofs.Common.{append_assoc, append-nil, flat_map, get_or, length, map, refl, sym}
use Rattle.std.proofs.Common.{take}
use Rattle.std.proofs.lemmas.Grind.{flat_map-append}
use Rattle.std.proofs.lemmas.List.{map_more, take_all}
use Rattle.remarks.specs.Remarks.{excerpt}

-- what was cut before more came is cut with it
pub cut_more : {A : Type 0} (n : ℕ) (p q : List A) → take n (take n p ++ q) ≡ take n (p ++ q)
cut_more zero p q = refl
cut_more (suc n) [] q = refl
cut_more (suc n) (x ∷ p) q = ap (λ l. x ∷ l) (cut_more n p q)

-- a cut list, with one more piece of what comes
pub one_more : {A : Type 0} (n : ℕ) (old p q new cut next : List A) → cut ≡ take n (old ++ p)
    → next ≡ take n (cut ++ q) → p ++ q ≡ new → next ≡ take n (old ++ new)
one_more n old p q new cut next is step grown =
    step ∙ ap (λ l. take n (l ++ q)) is ∙ cut_more n (old ++ p) q
    ∙ ap (take n) (append_assoc old p q ∙ ap (λ l. old ++ l) grown)

-- nothing more came
pub kept : {A : Type 0} (n : ℕ) (l : List A) → length l ≤ n → l ≡ take n (l ++ [])
kept n l short = sym (ap (take n) (append-nil l) ∙ take_all n l short)

-- the parts that were seen, and one more
pub more_parts : (parts : List (Bor (List ℕ))) (i : ℕ) (d : Bor (List ℕ)) → i < length parts
    → flat_map excerpt (map (λ part. part.now) (take i parts)) ++ excerpt (get_or parts i d).now
    ≡ flat_map excerpt (map (λ part. part.now) (take (i + 1) parts))
more_parts parts i d within =
    let now = λ (part : Bor (List ℕ)). part.now in
    let before : List (List ℕ) = map now (take i parts) in
    let next : List ℕ = (get_or parts i d).now in
    ap (λ l. flat_map excerpt before ++ l) (sym (append-nil (excerpt next)))
    ∙ sym (flat_map-append excerpt before (next ∷ []))
    ∙ ap (flat_map excerpt) (sym (map_more now parts i d within))
