-- Consoles that mean the same.
use Rattle.cueplayer.proofs.Terms.{◌≡◌, ℕ, ◌<◌, ◌≤◌, Bool, refl, ap, arith, sym, inl, inr, ◌∙◌}
use Rattle.cueplayer.proofs.Terms.{List, ◌-◌, [], ◌∷◌, map, length, get_or, nat_eq, filter}
use Rattle.cueplayer.proofs.Terms.{slice_index, range_with_len, eq-eqb, cases_lt}
use Rattle.cueplayer.proofs.Terms.{length-range_with_len, get_or-range_with_len, latest_frame}
use Rattle.cueplayer.proofs.Terms.{Light, greatest, leaders, merged_slot, In, In_filter}
use Rattle.cueplayer.proofs.Terms.{In_filtered, In_map, In_mapped, in_from_place, place_from_in}
use Rattle.cueplayer.proofs.Terms.{In_le, is_lit, light, lights, Play, frame_for, play_history}
use Rattle.cueplayer.proofs.Terms.{play_at, AllMean, IsTwin, MeansOne, TakesOver, TwinsLight}
use Rattle.cueplayer.proofs.Terms.{Traffic}
use Rattle.cueplayer.proofs.Showing.{merge_law}

-- ---- the greatest of what is the same

module _ {A : Type 0} (f : A → ℕ) where
  at_most : (v : ℕ) (xs : List A) → ((e : A) → In e xs → f e ≤ v) → greatest (map f xs) ≤ v
  at_most v [] h = omega arith
  at_most v (x ∷ xs) h =
      omega (arith, h x (inl refl), at_most v xs (λ e i. h e (inr i)))

  all_same : (v : ℕ) (xs : List A) → ((e : A) → In e xs → f e ≡ v) → (one : A) → In one xs
      → greatest (map f xs) ≡ v
  all_same v xs same one i =
      omega (arith, at_most v xs (λ e m. omega (arith, same e m)), In_le f one xs i, same one i)

  -- one of them is the greatest
  pub record Greatest (xs : List A) : Type 0 where
    pub one : A
    pub in_them : In one xs
    pub is_greatest : f one ≡ greatest (map f xs)

  a_greatest : (x : A) (xs : List A) → Greatest (x ∷ xs)
  a_greatest x [] = record { one = x; in_them = inl refl; is_greatest = omega arith }
  a_greatest x (y ∷ ys) =
      let rest = a_greatest y ys in
      elim (cases_lt (f x) (greatest (map f (y ∷ ys)))) [
        | inl l ↦ record {
          one = rest.one;
          in_them = inr rest.in_them;
          is_greatest = omega (arith, rest.is_greatest, l);
        }
        | inr g ↦ record { one = x; in_them = inl refl; is_greatest = omega (arith, g) }
      ]

  has_greatest : (xs : List A) (e : A) → In e xs → Greatest xs
  has_greatest [] e i = absurd i
  has_greatest (x ∷ xs) e i = a_greatest x xs

merged_one : (ls : List Light) (slot v : ℕ) → ((l : Light) → In l ls → slice_index l.slots slot ≡ v)
    → (one : Light) → In one ls → merged_slot ls slot ≡ v
merged_one ls slot v same one i =
    let g = has_greatest (λ (m : Light). m.priority) ls one i in
    let p : Light → Bool = λ l. nat_eq l.priority (greatest (map (λ (m : Light). m.priority) ls)) in
    all_same (λ (l : Light). slice_index l.slots slot) v (leaders ls)
    (λ l m. same l (In_filtered p l ls m).0) g.one
    (In_filter p g.one ls g.in_them (eq-eqb _ _ g.is_greatest))

-- ---- the lights of a receiver

in_range : (n k : ℕ) → In k (range_with_len 0 n) → k < n
in_range n k m =
    let place = place_from_in k (range_with_len 0 n) m in
    let l : place.0 < n = omega (arith, place.1, length-range_with_len 0 n) in
    omega (arith, place.2, get_or-range_with_len 0 n place.0 k l)

range_in : (n k : ℕ) → k < n → In k (range_with_len 0 n)
range_in n k below =
    let l : k < length (range_with_len 0 n) = omega (arith, below, length-range_with_len 0 n) in
    let at : get_or (range_with_len 0 n) k k ≡ k =
    omega (arith, get_or-range_with_len 0 n k k below) in
    in_from_place k (range_with_len 0 n) (k, l, at)

pub means_one : MeansOne
means_one plays u t traffic slots are all settled mean slot below =
    merge_law plays u t traffic are all settled slot below
    ∙ merged_one (lights plays u traffic t) slot (slice_index slots slot)
    (λ l m.
    let k = In_mapped (light plays u) l lit m in
    let f = In_filtered (is_lit plays traffic t) k.0 (range_with_len 0 n) k.1 in
    ap (λ (x : Light). slice_index x.slots slot) k.2
    ∙ ap (λ s. slice_index s slot) (mean.mean k.0 (in_range n k.0 f.0) f.1))
    (light plays u mean.one)
    (In_map (light plays u) mean.one lit
    (In_filter (is_lit plays traffic t) mean.one (range_with_len 0 n)
    (range_in n mean.one mean.is_one) mean.lights))
  where
    n : ℕ
    n = length plays

    lit : List ℕ
    lit = filter (is_lit plays traffic t) (range_with_len 0 n)

twin_means : (main twin : Play) (u : ℕ) → IsTwin main twin → frame_for twin u ≡ frame_for main u
twin_means main twin u is =
    ap (λ show. latest_frame show (play_history twin) (u - twin.production.base)) is.show_is
    ∙ ap (λ base. latest_frame main.production.show (play_history twin) (u - base)) is.base_is
    ∙ ap (λ h. latest_frame main.production.show h (u - main.production.base)) is.history_is

twins_mean : (main : Play) (plays : List Play) (u t : ℕ) (traffic : Traffic (ℕ × ℕ))
    → TwinsLight main plays t traffic → AllMean plays u t traffic (frame_for main u)
twins_mean main plays u t traffic twins = record {
  one = twins.one;
  is_one = twins.is_one;
  lights = twins.lights;
  mean = λ i below lit. twin_means main (play_at plays i) u (twins.twins i below lit);
}

pub takes_over : TakesOver
takes_over main plays later u t v traffic others hears heard twins followers slot below =
    means_one plays u t traffic (frame_for main u) hears.are_plays hears.all hears.settled
    (twins_mean main plays u t traffic twins) slot below
    ∙ sym (means_one later u v others (frame_for main u) heard.are_plays heard.all heard.settled
    (twins_mean main later u v others followers) slot below)
