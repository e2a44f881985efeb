-- What loops find first.
use Rattle.std.proofs.Common.{ℕ, ◌+◌, ◌-◌, ◌<◌, List, [], ◌∷◌, ◌++◌, Bool, Option, Some, None}
use Rattle.std.proofs.Common.{◌≡◌, ◌∙◌, sym, ap, cond, drop, get_or, le_of_eq, length, refl}
use Rattle.std.proofs.Common.{slice_get, take}
use Rattle.std.specs.List.{filter_map, list_any}
use Rattle.std.proofs.lemmas.List.{drop_more, length-drop, take-append-drop, take_all, take_more}
use Rattle.std.proofs.lemmas.List.Elements.{filter_map-append}
use Rattle.targets.specs.Address.{is_same}
use Rattle.targets.specs.Misfit.{first_repeat}
use Rattle.targets.specs.declared.address.Address.{Address}

-- what stands behind a place
behind : {X : Type 0} (xs : List X) (i : ℕ) → take (length xs - i) (drop i xs) ≡ drop i xs
behind xs i = take_all (length xs - i) (drop i xs) (le_of_eq (length-drop i xs))

module _ (xs : List Address) (i : ℕ) (d : Address) (inside : i < length xs)
    (so_far : first_repeat xs ≡ first_repeat (drop i xs)) where
  -- an address that does not stand again is passed over, and one that does is the first
  pub repeated-at : (again : Bool) → list_any (λ other. is_same other (get_or xs i d))
      (take (length xs - (i + 1)) (drop (i + 1) xs)) ≡ again
      → first_repeat xs ≡ cond again (Some (get_or xs i d)) (first_repeat (drop (i + 1) xs))
  repeated-at again is = so_far ∙ ap first_repeat (drop_more xs i d inside)
      ∙ ap (λ b. cond b (Some (get_or xs i d)) (first_repeat (drop (i + 1) xs)))
      (ap (list_any (λ other. is_same other (get_or xs i d))) (sym (behind xs (i + 1))) ∙ is)

module _ {X Y : Type 0} (h : X → Option Y) where
  at_front : (x : X) (rest : List X) (y : Y) → h x ≡ Some y
      → slice_get (filter_map h (x ∷ rest)) 0 ≡ Some y
  at_front x rest y is = rw (is) refl

  -- nothing was found so far, and nothing is here
  pub none_more : (xs : List X) (i : ℕ) (d : X) → i < length xs → filter_map h (take i xs) ≡ []
      → h (get_or xs i d) ≡ None → filter_map h (take (i + 1) xs) ≡ []
  none_more xs i d inside none here = ap (filter_map h) (take_more xs i d inside)
      ∙ filter_map-append h (take i xs) (get_or xs i d ∷ []) ∙ rw (none, here) refl

  -- nothing was found so far, and here is something
  pub first_here : (xs : List X) (i : ℕ) (d : X) (y : Y) → i < length xs
      → filter_map h (take i xs) ≡ [] → h (get_or xs i d) ≡ Some y
      → slice_get (filter_map h xs) 0 ≡ Some y
  first_here xs i d y inside none here =
      let rest = drop (i + 1) xs in
      let split : xs ≡ take i xs ++ get_or xs i d ∷ rest = sym (take-append-drop i xs)
      ∙ ap (λ ys. take i xs ++ ys) (drop_more xs i d inside) in
      ap (λ ys. slice_get (filter_map h ys) 0) split
      ∙ ap (λ ys. slice_get ys 0) (filter_map-append h (take i xs) (get_or xs i d ∷ rest)
      ∙ ap (λ ys. ys ++ filter_map h (get_or xs i d ∷ rest)) none)
      ∙ at_front (get_or xs i d) rest y here
