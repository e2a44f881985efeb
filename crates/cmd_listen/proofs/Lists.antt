-- What lists lack in std.
use Rattle.cmd_listen.proofs.Terms.{◌≡◌, ℕ, zero, suc, ◌+◌, ◌<◌, ◌≤◌, min, refl, ap, sym, ◌∙◌, inl}
use Rattle.cmd_listen.proofs.Terms.{inr, arith, List, [], ◌∷◌, ◌++◌, map, length, take, drop}
use Rattle.cmd_listen.proofs.Terms.{get_or, set, add-one, cases_lt, take_all, take_more}
use Rattle.cmd_listen.proofs.Terms.{length-drop, map-append, AllZip}

pub take_min : (n : ℕ) (xs : List ℕ) → take (min (length xs) n) xs ≡ take n xs
take_min n xs = elim (cases_lt n (length xs)) [
  | inl lt ↦ let e : min (length xs) n ≡ n = omega arith in ap (λ k. take k xs) e
  | inr le ↦ let e : min (length xs) n ≡ length xs = omega arith in
      ap (λ k. take k xs) e ∙ take_all (length xs) xs (omega arith) ∙ sym (take_all n xs le)
]

-- two lists, place by place
module _ {A B : Type 0} where
  pub zip_push : (R : A → B → Type 0) (xs : List A) (ys : List B) (x : A) (y : B) → AllZip R xs ys
      → R x y → AllZip R (xs ++ x ∷ []) (ys ++ y ∷ [])
  zip_push R [] [] x y zip here = (here, tt)
  zip_push R [] (w ∷ ws) x y zip here = absurd zip
  zip_push R (v ∷ vs) [] x y zip here = absurd zip
  zip_push R (v ∷ vs) (w ∷ ws) x y zip here = (zip.0, zip_push R vs ws x y zip.1 here)

  -- one more of those that are made of the elements of a list
  pub zip_more : {C : Type 0} (R : A → B → Type 0) (f : C → B) (xs : List A) (zs : List C) (i : ℕ)
      (x : A) (d : C) → i < length zs → AllZip R xs (map f (take i zs)) → R x (f (get_or zs i d))
      → AllZip R (xs ++ x ∷ []) (map f (take (i + 1) zs))
  zip_more R f xs zs i x d inside zip here =
      let h = zip_push R xs (map f (take i zs)) x (f (get_or zs i d)) zip here in
      rw (take_more zs i d inside, map-append f (take i zs) (get_or zs i d ∷ [])) h

  pub zip_length : (R : A → B → Type 0) (xs : List A) (ys : List B) → AllZip R xs ys
      → length xs ≡ length ys
  zip_length R [] [] zip = refl
  zip_length R [] (w ∷ ws) zip = absurd zip
  zip_length R (v ∷ vs) [] zip = absurd zip
  zip_length R (v ∷ vs) (w ∷ ws) zip = ap suc (zip_length R vs ws zip.1)

  -- each place in its turn: those in front of it were changed, and those from it on were not
  pub record HalfWay (R S : A → B → Type 0) (f : B → B) (i : ℕ) (xs : List A) (ys : List B)
      : Type 0 where
    pub front : AllZip R (take i xs) (map f (take i ys))
    pub back : AllZip S (drop i xs) (drop i ys)

  half_on : (R S : A → B → Type 0) (f : B → B) (i : ℕ) (xs : List A) (ys : List B) (x : A) (d : A)
      (e : B) → i < length xs → AllZip R (take i xs) (map f (take i ys))
      → AllZip S (drop i xs) (drop i ys)
      → (S (get_or xs i d) (get_or ys i e) → R x (f (get_or ys i e)))
      → AllZip R (take (suc i) (set xs i x)) (map f (take (suc i) ys))
      × AllZip S (drop (suc i) (set xs i x)) (drop (suc i) ys)
  half_on R S f i [] ys x d e inside front back step = absurd (omega arith)
  half_on R S f zero (v ∷ vs) [] x d e inside front back step = absurd back
  half_on R S f zero (v ∷ vs) (w ∷ ws) x d e inside front back step = ((step back.0, tt), back.1)
  half_on R S f (suc i) (v ∷ vs) [] x d e inside front back step = absurd front
  half_on R S f (suc i) (v ∷ vs) (w ∷ ws) x d e inside front back step =
      let r = half_on R S f i vs ws x d e (omega arith) front.1 back step in
      ((front.0, r.0), r.1)

  pub half_more : (R S : A → B → Type 0) (f : B → B) (i : ℕ) (xs : List A) (ys : List B) (x : A)
      (d : A) (e : B) → i < length xs → HalfWay R S f i xs ys
      → (S (get_or xs i d) (get_or ys i e) → R x (f (get_or ys i e)))
      → HalfWay R S f (i + 1) (set xs i x) ys
  half_more R S f i xs ys x d e inside half step =
      let r = half_on R S f i xs ys x d e inside half.front half.back step in
      rw (add-one i) (record { front = r.0; back = r.1 })

  -- what is at the place, before its turn
  pub half_at : (S : A → B → Type 0) (i : ℕ) (xs : List A) (ys : List B) (d : A) (e : B)
      → i < length xs → AllZip S (drop i xs) (drop i ys) → S (get_or xs i d) (get_or ys i e)
  half_at S i [] ys d e inside back = absurd (omega arith)
  half_at S zero (v ∷ vs) [] d e inside back = absurd back
  half_at S zero (v ∷ vs) (w ∷ ws) d e inside back = back.0
  half_at S (suc i) (v ∷ vs) [] d e inside back =
      absurd (omega (arith, zip_length S (drop i vs) [] back, length-drop i vs))
  half_at S (suc i) (v ∷ vs) (w ∷ ws) d e inside back = half_at S i vs ws d e (omega arith) back

  pub half_all : (R S : A → B → Type 0) (f : B → B) (i : ℕ) (xs : List A) (ys : List B)
      → length xs ≤ i → length xs ≡ length ys → HalfWay R S f i xs ys → AllZip R xs (map f ys)
  half_all R S f i xs ys all long half =
      let front = half.front in
      rw (take_all i xs all, take_all i ys (omega arith)) at front
