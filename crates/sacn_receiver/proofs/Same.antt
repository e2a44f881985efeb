-- The merge depends on the members alone.
use Rattle.std.proofs.Common.{◌≡◌, ℕ, ◌≤◌, Bool, refl, ap, arith, inl, inr, List, [], ◌∷◌, map}
use Rattle.std.specs.Prelude.{nat_eq, filter, slice_index}
use Rattle.sacn_receiver.specs.Shown.{Light, greatest, merged_slot}
use Rattle.sacn_receiver.proofs.Members.{In, In_kept}

-- the greatest depends on the members alone
module _ {A : Type 0} (f : A → ℕ) where
  pub In_le : (e : A) (es : List A) → In e es → f e ≤ greatest (map f es)
  In_le e [] i = absurd i
  In_le e (x ∷ xs) (inl s) = omega (arith, ap f s)
  In_le e (x ∷ xs) (inr i) = omega (arith, In_le e xs i)

  greatest_le : (xs ys : List A) → ((e : A) → In e xs → In e ys)
      → greatest (map f xs) ≤ greatest (map f ys)
  greatest_le [] ys h = omega arith
  greatest_le (x ∷ xs) ys h = let le = greatest_le xs ys (λ e i. h e (inr i)) in
      omega (arith, In_le x ys (h x (inl refl)), le)

  same_greatest : (xs ys : List A) → ((e : A) → In e xs → In e ys) → ((e : A) → In e ys → In e xs)
      → greatest (map f xs) ≡ greatest (map f ys)
  same_greatest xs ys h g = omega (arith, greatest_le xs ys h, greatest_le ys xs g)

pub merged_same : (xs ys : List Light) (s : ℕ) → ((l : Light) → In l xs → In l ys)
    → ((l : Light) → In l ys → In l xs) → merged_slot xs s ≡ merged_slot ys s
merged_same xs ys s h g =
    let top : ℕ = greatest (map (λ m. m.priority) ys) in
    let p : Light → Bool = λ l. nat_eq l.priority top in
    let e : greatest (map (λ m. m.priority) xs) ≡ top = same_greatest (λ m. m.priority) xs ys h g in
    rw e (same_greatest (λ l. slice_index l.slots s) (filter p xs) (filter p ys)
    (In_kept p xs ys h) (In_kept p ys xs g))
