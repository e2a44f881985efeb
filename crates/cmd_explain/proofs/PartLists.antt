-- The parts of a cue among all parts, one part after the other.
use Rattle.cmd_explain.proofs.Terms.{◌≡◌, ◌∙◌, ℕ, zero, suc, ◌+◌, ◌<◌, ◌++◌, ◌==◌, Bool, cond, List}
use Rattle.cmd_explain.proofs.Terms.{[], ◌∷◌, length, map, flat_map, reverse, take, drop, get_or}
use Rattle.cmd_explain.proofs.Terms.{refl, sym, ap, arith, filter, range_with_len, eq-eqb, ne_eqb}
use Rattle.cmd_explain.proofs.Terms.{append-nil, drop_more, flat_map_more, map-append, map_more}
use Rattle.cmd_explain.proofs.Terms.{map_push, reverse-append, take-append-drop, filter-append}
use Rattle.cmd_explain.proofs.Terms.{CuePart, change_last, part_of, Part}

module _ {X Y : Type 0} (test : Y → Bool) (f : X → Y) where
  -- what is kept of one more
  pub filter_more : (xs : List X) (i : ℕ) (d : X) → i < length xs
      → filter test (map f (take (i + 1) xs))
      ≡ filter test (map f (take i xs))
      ++ cond (test (f (get_or xs i d))) (f (get_or xs i d) ∷ []) []
  filter_more xs i d within =
      ap (filter test) (map_more f xs i d within)
      ∙ filter-append test (map f (take i xs)) (f (get_or xs i d) ∷ [])

  -- what is kept before one, and from it on
  pub filter_around : (xs : List X) (i : ℕ) (d : X) → i < length xs
      → filter test (map f xs)
      ≡ filter test (map f (take i xs))
      ++ filter test (map f (get_or xs i d ∷ drop (i + 1) xs))
  filter_around xs i d within =
      ap (λ ys. filter test (map f ys)) (sym (take-append-drop i xs))
      ∙ ap (filter test) (map-append f (take i xs) (drop i xs))
      ∙ filter-append test (map f (take i xs)) (map f (drop i xs))
      ∙ ap (λ ys. filter test (map f (take i xs)) ++ filter test (map f ys))
      (drop_more xs i d within)

-- the parts of a cue
abbrev pub of_cue : ℕ → List Part → List CuePart
of_cue cue parts = filter (λ p. p.cue == cue) (map part_of parts)

module _ (cue : ℕ) (parts : List Part) (i : ℕ) (p : Part) (within : i < length parts)
    (at : p ≡ get_or parts i p) where
  -- one of the cue, and those behind it
  pub first_of : p.cue ≡ cue → of_cue cue parts
      ≡ of_cue cue (take i parts) ++ part_of p ∷ of_cue cue (drop (i + 1) parts)
  first_of is =
      let rest = of_cue cue (drop (i + 1) parts) in
      filter_around (λ (q : CuePart). q.cue == cue) part_of parts i p within
      ∙ ap (λ x. of_cue cue (take i parts) ++ of_cue cue (x ∷ drop (i + 1) parts)) (sym at)
      ∙ ap (λ b. of_cue cue (take i parts) ++ cond b (part_of p ∷ rest) rest) (eq-eqb p.cue cue is)

  more : of_cue cue (take (i + 1) parts) ≡ of_cue cue (take i parts) ++ of_cue cue (p ∷ [])
  more =
      filter_more (λ (q : CuePart). q.cue == cue) part_of parts i p within
      ∙ ap (λ x. of_cue cue (take i parts) ++ of_cue cue (x ∷ [])) (sym at)

  -- a part of the cue is told behind those before it
  pub tell_more : p.cue ≡ cue → (tell : CuePart → List ℕ) (old : List ℕ) {a b : List ℕ}
      → a ≡ old ++ flat_map tell (of_cue cue (take i parts)) → b ≡ a ++ tell (part_of p)
      → b ≡ old ++ flat_map tell (of_cue cue (take (i + 1) parts))
  tell_more is tell old was next =
      next ∙ ap (λ t. t ++ tell (part_of p)) was
      ∙ flat_map_more tell old (of_cue cue (take i parts)) (part_of p)
      ∙ ap (λ b. old ++ flat_map tell (of_cue cue (take i parts) ++ cond b (part_of p ∷ []) []))
      (sym (eq-eqb p.cue cue is))
      ∙ ap (λ ps. old ++ flat_map tell ps) (sym more)

  -- a part of another cue is not
  pub tell_same : (p.cue ≡ cue → ⊥) → (tell : CuePart → List ℕ) (old : List ℕ) {a : List ℕ}
      → a ≡ old ++ flat_map tell (of_cue cue (take i parts))
      → a ≡ old ++ flat_map tell (of_cue cue (take (i + 1) parts))
  tell_same other tell old was =
      was
      ∙ ap (λ ps. old ++ flat_map tell ps) (sym (more
      ∙ ap (λ b. of_cue cue (take i parts) ++ cond b (part_of p ∷ []) [])
      (ne_eqb p.cue cue other)
      ∙ append-nil (of_cue cue (take i parts))))

-- the last one comes first
pub newest_more : (parts : List Part) (p : Part)
    → reverse (map part_of (parts ++ p ∷ [])) ≡ part_of p ∷ reverse (map part_of parts)
newest_more parts p = ap reverse (map_push part_of parts p)
    ∙ reverse-append (map part_of parts) (part_of p ∷ [])

-- the last part is changed
pub change_last_is : (change : CuePart → CuePart) (old new rest : List Part) (p q : Part)
    → old ≡ rest ++ p ∷ [] → new ≡ rest ++ q ∷ [] → part_of q ≡ change (part_of p)
    → reverse (map part_of new) ≡ change_last change (reverse (map part_of old))
change_last_is change old new rest p q was is same =
    ap (λ ps. reverse (map part_of ps)) is ∙ newest_more rest q
    ∙ ap (λ x. x ∷ reverse (map part_of rest)) same
    ∙ sym (ap (λ ps. change_last change (reverse (map part_of ps))) was
    ∙ ap (change_last change) (newest_more rest p))

-- tests that agree below a bound keep the same numbers below it
pub same_below : (p q : ℕ → Bool) (a n : ℕ) → ((x : ℕ) → x < a + n → p x ≡ q x)
    → filter p (range_with_len a n) ≡ filter q (range_with_len a n)
same_below p q a zero same = refl
same_below p q a (suc n) same =
    let rest : filter p (range_with_len (a + 1) n) ≡ filter q (range_with_len (a + 1) n) =
    same_below p q (a + 1) n (λ x within. same x (omega (arith, within))) in
    let kept = filter p (range_with_len (a + 1) n) in
    ap (λ b. cond b (a ∷ kept) kept) (same a (omega arith))
    ∙ ap (λ ns. cond (q a) (a ∷ ns) ns) rest
