-- What is in a list, and what filters leave in it.
use Rattle.std.proofs.Common.{◌≡◌, ℕ, zero, suc, ◌<◌, Bool, true, false, ◌⊎◌, refl, ap, arith, sym}
use Rattle.std.proofs.Common.{inl, inr, ◌∙◌, List, [], ◌∷◌, map, length, get_or, Some, None}
use Rattle.std.specs.Prelude.{filter, find, Contains}

-- what holds where a test passes, and where it fails
pub by_test : {P : Type 0} (b : Bool) → (b ≡ true → P) → (b ≡ false → P) → P
by_test true f g = f refl
by_test false f g = g refl

-- membership
abbrev pub In : {A : Type 0} → A → List A → Type 0
In e [] = ⊥
In e (x ∷ xs) = (e ≡ x) ⊎ In e xs

-- an element, by its place and by recursion
module _ {A : Type 0} where
  pub in_from_get_or : (xs : List A) (k : ℕ) (x : A) → k < length xs → In (get_or xs k x) xs
  in_from_get_or [] k x l = absurd (omega arith)
  in_from_get_or (y ∷ ys) zero x l = inl refl
  in_from_get_or (y ∷ ys) (suc k) x l = inr (in_from_get_or ys k x (omega arith))

  pub in_from_place : (x : A) (xs : List A) → Contains xs x → In x xs
  in_from_place x xs c = rw c.2 at (in_from_get_or xs c.0 x c.1)

  pub place_from_in : (x : A) (xs : List A) → In x xs → Contains xs x
  place_from_in x [] i = absurd i
  place_from_in x (y ∷ ys) (inl e) = (zero, omega arith, sym e)
  place_from_in x (y ∷ ys) (inr i) =
      let r = place_from_in x ys i in (suc r.0, omega (arith, r.1), r.2)

pub In_length : {A : Type 0} (e : A) (xs : List A) → In e xs → 0 < length xs
In_length e [] i = absurd i
In_length e (x ∷ xs) i = omega arith

module _ {A : Type 0} (p : A → Bool) where
  pub In_filter : (e : A) (es : List A) → In e es → p e ≡ true → In e (filter p es)
  In_filter e [] i q = i
  In_filter e (x ∷ xs) (inl s) q = rw (sym (ap p s) ∙ q) (inl s)
  In_filter e (x ∷ xs) (inr i) q =
      by_test (p x) (λ h. rw h (inr (In_filter e xs i q))) (λ h. rw h (In_filter e xs i q))

  pub In_filtered : (e : A) (es : List A) → In e (filter p es) → In e es × (p e ≡ true)
  In_filtered e [] i = absurd i
  In_filtered e (x ∷ xs) i =
      by_test (p x) (λ h. elim (rw h at i) [
        | inl s ↦ (inl s, ap p s ∙ h)
        | inr k ↦ let r = In_filtered e xs k in (inr r.0, r.1)
      ]) (λ h. let r = In_filtered e xs (rw h at i) in (inr r.0, r.1))

  pub In_kept : (es fs : List A) → ((e : A) → In e es → In e fs) → (e : A)
      → In e (filter p es) → In e (filter p fs)
  In_kept es fs h e i = let r = In_filtered e es i in In_filter e fs (h e r.0) r.1

  -- what is found is in the list, and passes
  pub found_in : (e : A) (es : List A) → find p es ≡ Some e → In e es × (p e ≡ true)
  found_in e [] f = absurd (let k : None ≡ Some e = f in cc)
  found_in e (x ∷ xs) f =
      by_test (p x) (λ h. let s : Some x ≡ Some e = rw h at f in let k : e ≡ x = cc in
      (inl k, ap p k ∙ h)) (λ h. let r = found_in e xs (rw h at f) in (inr r.0, r.1))

  -- nothing is found where nothing passes
  pub none_first : (x : A) (xs : List A) → find p (x ∷ xs) ≡ None
      → (p x ≡ false) × (find p xs ≡ None)
  none_first x xs n = grind (arith, n)

  pub none_found : (es : List A) → find p es ≡ None → length (filter p es) ≡ 0
  none_found [] n = refl
  none_found (e ∷ es) n = let m = none_first e es n in rw m.0 (none_found es m.1)

module _ {A B : Type 0} (f : A → B) where
  pub In_map : (e : A) (es : List A) → In e es → In (f e) (map f es)
  In_map e [] i = i
  In_map e (x ∷ xs) (inl s) = inl (ap f s)
  In_map e (x ∷ xs) (inr i) = inr (In_map e xs i)

  pub In_mapped : (y : B) (es : List A) → In y (map f es) → (e : A) × In e es × (y ≡ f e)
  In_mapped y [] i = absurd i
  In_mapped y (x ∷ xs) (inl s) = (x, inl refl, s)
  In_mapped y (x ∷ xs) (inr i) = let r = In_mapped y xs i in (r.0, inr r.1, r.2)
