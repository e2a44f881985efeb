-- A table by the entries that it is seen from: their keys stand for numbers.
use Rattle.show_core.proofs.Terms.{◌≡◌, ℕ, cond, IsTrue, ◌&&◌, List, [], ◌∷◌, length, get_or, set}
use Rattle.show_core.proofs.Terms.{Option, Some, None, refl, sym, ap, ◌∙◌, Ordering, Less, Equal}
use Rattle.show_core.proofs.Terms.{Greater, nat_cmp, is_lt, eq_by_cmp, nat_cmp_total, below_all}
use Rattle.show_core.proofs.Terms.{by_order, length-map, map-id, IsAt, IsGap, IsNumbered}
use Rattle.show_core.proofs.Terms.{entries_by_number}
use Rattle.std.specs.Prelude.{map as map_list}
use Rattle.std.specs.FinMap as map
use Rattle.show_core.proofs.Sorted.{find_at, find_gap, set_at, sorted_put, entries_are}
use Rattle.show_core.proofs.Sorted.{from_sorted-put, from_sorted-nil}

module _ {K V : Type 0} {R : K → K → Ordering} {number : K → ℕ} (k : IsNumbered R number) where
  below : (x : K) (es : List (K × V))
      → below_all nat_cmp (number x) (entries_by_number number es) ≡ below_all R x es
  below x [] = refl
  below x (e ∷ es) = rw (k.by_number x e.0)
      (ap (λ b. is_lt (nat_cmp (number x) (number e.0)) && b) (below x es))

  sorted_by : (es : List (K × V)) → map.is_sorted nat_cmp (entries_by_number number es)
      ≡ map.is_sorted R es
  sorted_by [] = refl
  sorted_by (e ∷ es) = λ i. below e.0 es i && sorted_by es i

  find_by : (q : K) (es : List (K × V))
      → map.find nat_cmp (number q) (entries_by_number number es) ≡ map.find R q es
  find_by q [] = refl
  find_by q (e ∷ es) = rw (k.by_number q e.0)
      (ap (cond (eq_by_cmp nat_cmp (number q) (number e.0)) (Some e.1)) (find_by q es))

  put_by : (q : K) (v : V) (es : List (K × V))
      → entries_by_number number (map.put R q v es)
      ≡ map.put nat_cmp (number q) v (entries_by_number number es)
  put_by q v [] = refl
  put_by q v (e ∷ es) =
      let here : ℕ × V = (number e.0, e.1) in
      let rest : List (ℕ × V) = entries_by_number number es in
      rw (k.by_number q e.0)
      (elim (nat_cmp (number q) (number e.0))
      as (λ r. entries_by_number number
      (by_order r ((q, v) ∷ e ∷ es) ((e.0, v) ∷ es) (e ∷ map.put R q v es))
      ≡ by_order r ((number q, v) ∷ here ∷ rest) ((number e.0, v) ∷ rest)
      (here ∷ map.put nat_cmp (number q) v rest)) [
        | Less ↦ refl
        | Equal ↦ refl
        | Greater ↦ ap (λ l. here ∷ l) (put_by q v es)
      ])

  module _ (es : List (K × V)) {m : map.FinMap nat_cmp V}
      (seen : map.from_sorted (entries_by_number number es) ≡ m)
      (sorted : IsTrue (map.is_sorted R es)) where
    numbers_sorted : IsTrue (map.is_sorted nat_cmp (entries_by_number number es))
    numbers_sorted = sorted_by es ∙ sorted

    entries_seen : entries_by_number number es ≡ map.entries m
    entries_seen =
        sym (entries_are nat_cmp nat_cmp_total (entries_by_number number es) numbers_sorted)
        ∙ ap map.entries seen

    pub len_seen : length es ≡ map.len m
    len_seen = sym (length-map es (λ (e : K × V). (number e.0, e.1)))
        ∙ ap length entries_seen ∙ sym (map.len-entries m)

    pub find_seen : (key : K) → map.find R key es ≡ map.get m (number key)
    find_seen key = sym (find_by key es) ∙ ap (map.find nat_cmp (number key)) entries_seen
        ∙ sym (map.get-entries m (number key))

    pub put_seen : (key : K) (v : V)
        → map.from_sorted (entries_by_number number (map.put R key v es))
        ≡ map.insert m (number key) v
    put_seen key v = ap map.from_sorted (put_by key v es)
        ∙ from_sorted-put nat_cmp nat_cmp_total (entries_by_number number es) numbers_sorted
        (number key) v
        ∙ ap (λ x. map.insert x (number key) v) seen

    -- the value at the place that a search found, and what writing another one there leaves
    module _ {key : K} {i : ℕ} where
      pub none_seen : IsGap R es key i → ◌≡◌ {A = Option V} None (map.get m (number key))
      none_seen gap = sym (find_gap R k.total es key i gap) ∙ find_seen key

      module _ (at : IsAt R es key i) {e : K × V} (is : e ≡ get_or es i e) where
        pub value_seen : ◌≡◌ {A = Option V} (Some e.1) (map.get m (number key))
        value_seen = ap (λ x. Some x.1) is ∙ sym (find_at R k.total es key i e at) ∙ find_seen key

        pub sorted_set : (v : V) → IsTrue (map.is_sorted R (set es i (e.0, v)))
        sorted_set v = rw (set_at R k.total es sorted key i e v at is)
            (sorted_put R k.total es sorted key v)

        pub set_seen : (v : V)
            → map.from_sorted (entries_by_number number (set es i (e.0, v)))
            ≡ map.insert m (number key) v
        set_seen v = rw (set_at R k.total es sorted key i e v at is) (put_seen key v)

pub of_none : {K V : Type 0} (f : K × V → ℕ × V) (es : List (K × V)) → es ≡ []
    → map.from_sorted {R = nat_cmp} (map_list f es) ≡ map.empty
of_none f es none = rw none (from_sorted-nil nat_cmp)

-- the same where the keys are numbers themselves
module _ {V : Type 0} (es : List (ℕ × V)) {m : map.FinMap nat_cmp V}
    (seen : map.from_sorted (map_list (λ e. (e.0, e.1)) es) ≡ m) where
  pub own_seen : map.from_sorted es ≡ m
  own_seen = ap map.from_sorted (sym (map-id es)) ∙ seen

  pub own_entries : IsTrue (map.is_sorted nat_cmp es) → es ≡ map.entries m
  own_entries sorted =
      sym (entries_are nat_cmp nat_cmp_total es sorted) ∙ ap map.entries own_seen
