-- What holds of each key or of each value of a map stays so under the edits.
use Rattle.show_core.proofs.Terms.{◌≡◌, ℕ, ◌+◌, ◌≤◌, true, false, cond, not, IsTrue, T, List, [], ◌∷◌}
use Rattle.show_core.proofs.Terms.{length, Some, None, is_some, refl, sym, subst, ap, ◌∙◌, arith, All}
use Rattle.show_core.proofs.Terms.{IfSome, option_map_or, nat_cmp, is_lt, eq_by_cmp, nat_cmp_total}
use Rattle.show_core.proofs.Terms.{by_order, below_all, Less, Equal, Greater, nat_tests, All-nil}
use Rattle.show_core.proofs.Terms.{All-cons, All-head, All-tail, All-weaker, All-filter, tells_apart}
use Rattle.show_core.proofs.Terms.{exact_unsigned, is_within, without}
use Rattle.std.specs.Prelude.{map as map_list}
use Rattle.std.specs.FinMap as map
use Rattle.show_core.proofs.Sorted.{and_left, and_right, to_true, from_sorted-nil}
use Rattle.show_core.proofs.Removed.{entries-remove}

module _ {V : Type 0} (P : ℕ → Type 0) where
  pub keys-put : (k : ℕ) (v : V) (es : List (ℕ × V)) → All P (map_list (λ e. e.0) es) → P k
      → All P (map_list (λ e. e.0) (map.put nat_cmp k v es))
  keys-put k v [] h p = All-cons P k [] p (All-nil P)
  keys-put k v (e ∷ es) h p =
      let rest : List ℕ = map_list (λ (x : ℕ × V). x.0) es in
      elim (nat_cmp k e.0)
      as (λ r. All P
      (map_list (λ x. x.0)
      (by_order r ((k, v) ∷ e ∷ es) ((e.0, v) ∷ es) (e ∷ map.put nat_cmp k v es)))) [
        | Less ↦ All-cons P k (e.0 ∷ rest) p h
        | Equal ↦ h
        | Greater ↦ All-cons P e.0 (map_list (λ (x : ℕ × V). x.0) (map.put nat_cmp k v es))
            (All-head P e.0 rest h) (keys-put k v es (All-tail P e.0 rest h) p)
      ]

  pub keys-without : (k : ℕ) (es : List (ℕ × V)) → All P (map_list (λ e. e.0) es)
      → All P (map_list (λ e. e.0) (without nat_cmp k es))
  keys-without k [] h = h
  keys-without k (e ∷ es) h =
      let rest : List ℕ = map_list (λ (x : ℕ × V). x.0) es in
      let kept = keys-without k es (All-tail P e.0 rest h) in
      elim (eq_by_cmp nat_cmp k e.0)
      as (λ b. All P
      (map_list (λ x. x.0) (cond (not b) (e ∷ without nat_cmp k es) (without nat_cmp k es)))) [
        | true ↦ kept
        | false ↦ All-cons P e.0 (map_list (λ (x : ℕ × V). x.0) (without nat_cmp k es))
            (All-head P e.0 rest h) kept
      ]

  -- the entries, from their keys
  pub entries_from_keys : (es : List (ℕ × V)) → All P (map_list (λ e. e.0) es) → All (λ e. P e.0) es
  entries_from_keys [] h = All-nil (λ e. P e.0)
  entries_from_keys (e ∷ es) h =
      let rest : List ℕ = map_list (λ (x : ℕ × V). x.0) es in
      All-cons (λ e. P e.0) e es (All-head P e.0 rest h)
      (entries_from_keys es (All-tail P e.0 rest h))

  key_at : (q : ℕ) (es : List (ℕ × V)) → All P (map_list (λ e. e.0) es)
      → is_some (map.find nat_cmp q es) ≡ true → P q
  key_at q [] h t = cc
  key_at q (e ∷ es) h t =
      let rest : List ℕ = map_list (λ (x : ℕ × V). x.0) es in
      elim (eq_by_cmp nat_cmp q e.0)
      as (λ b. eq_by_cmp nat_cmp q e.0 ≡ b
      → is_some (cond b (Some e.1) (map.find nat_cmp q es)) ≡ true → P q) [
        | true ↦ λ s _. subst P (sym (tells_apart exact_unsigned q e.0 s)) (All-head P e.0 rest h)
        | false ↦ λ _ u. key_at q es (All-tail P e.0 rest h) u
      ] refl t

  pub keys-insert : (m : map.FinMap nat_cmp V) (k : ℕ) (v : V) → All P (map.keys m) → P k
      → All P (map.keys (map.insert m k v))
  keys-insert m k v h p =
      rw (map.entries-insert nat_cmp_total m k v) (keys-put k v (map.entries m) h p)

  -- a key that is there is one of them
  pub key_in : (m : map.FinMap nat_cmp V) (n : ℕ) → All P (map.keys m) → map.contains_key m n ≡ true
      → P n
  key_in m n h there = key_at n (map.entries m) h (ap is_some (sym (map.get-entries m n)) ∙ there)

  pub keys-changed : (m : map.FinMap nat_cmp V) (n : ℕ) (change : V → V) → All P (map.keys m)
      → All P (map.keys (option_map_or (λ v. map.insert m n (change v)) (map.get m n) m))
  keys-changed m n change h =
      elim (map.get m n)
      as (λ o. map.get m n ≡ o
      → All P (map.keys (option_map_or (λ v. map.insert m n (change v)) o m))) [
        | None ↦ λ _. h
        | Some v ↦ λ is. keys-insert m n (change v) h (key_in m n h (ap is_some is))
      ] refl

  pub keys-remove : (m : map.FinMap nat_cmp V) (k : ℕ) → All P (map.keys m)
      → All P (map.keys (map.remove m k))
  keys-remove m k h =
      rw (entries-remove nat_cmp nat_cmp_total map.nat_cmp-IsAntisymmetric m k)
      (keys-without k (map.entries m) h)

pub len-changed : {V : Type 0} (m : map.FinMap nat_cmp V) (n : ℕ) (change : V → V)
    → map.len (option_map_or (λ v. map.insert m n (change v)) (map.get m n) m) ≡ map.len m
len-changed m n change =
    elim (map.get m n)
    as (λ o. map.get m n ≡ o
    → map.len (option_map_or (λ v. map.insert m n (change v)) o m) ≡ map.len m) [
      | None ↦ λ _. refl
      | Some v ↦ λ is. map.len-insert nat_cmp_total m n (change v)
          ∙ ap (λ o. cond (is_some o) (map.len m) (map.len m + 1)) is
    ] refl

module _ {V : Type 0} (Q : V → Type 0) where
  values-put : (k : ℕ) (v : V) (es : List (ℕ × V)) → All (λ e. Q e.1) es → Q v
      → All (λ e. Q e.1) (map.put nat_cmp k v es)
  values-put k v [] h q = All-cons (λ e. Q e.1) (k, v) [] q (All-nil (λ e. Q e.1))
  values-put k v (e ∷ es) h q =
      let rest : All (λ e. Q e.1) es = All-tail (λ e. Q e.1) e es h in
      elim (nat_cmp k e.0)
      as (λ r. All (λ x. Q x.1)
      (by_order r ((k, v) ∷ e ∷ es) ((e.0, v) ∷ es) (e ∷ map.put nat_cmp k v es))) [
        | Less ↦ All-cons (λ e. Q e.1) (k, v) (e ∷ es) q h
        | Equal ↦ All-cons (λ e. Q e.1) (e.0, v) es q rest
        | Greater ↦ All-cons (λ e. Q e.1) e (map.put nat_cmp k v es) (All-head (λ e. Q e.1) e es h)
            (values-put k v es rest q)
      ]

  pub values-insert : (m : map.FinMap nat_cmp V) (k : ℕ) (v : V) → All (λ e. Q e.1) (map.entries m)
      → Q v → All (λ e. Q e.1) (map.entries (map.insert m k v))
  values-insert m k v h q =
      rw (map.entries-insert nat_cmp_total m k v) (values-put k v (map.entries m) h q)

  pub values-remove : (m : map.FinMap nat_cmp V) (k : ℕ) → All (λ e. Q e.1) (map.entries m)
      → All (λ e. Q e.1) (map.entries (map.remove m k))
  values-remove m k h =
      rw (entries-remove nat_cmp nat_cmp_total map.nat_cmp-IsAntisymmetric m k)
      (All-filter (λ e. not (eq_by_cmp nat_cmp k e.0)) (λ e. Q e.1) (map.entries m) h)

  value_at : (q : ℕ) (es : List (ℕ × V)) → All (λ e. Q e.1) es → IfSome (map.find nat_cmp q es) Q
  value_at q [] h = tt
  value_at q (e ∷ es) h =
      elim (eq_by_cmp nat_cmp q e.0)
      as (λ b. IfSome (cond b (Some e.1) (map.find nat_cmp q es)) Q) [
        | true ↦ All-head (λ e. Q e.1) e es h
        | false ↦ value_at q es (All-tail (λ e. Q e.1) e es h)
      ]

  -- a value that is found is one of them
  pub value_in : (m : map.FinMap nat_cmp V) (q : ℕ) → All (λ e. Q e.1) (map.entries m)
      → IfSome (map.get m q) Q
  value_in m q h = rw (map.get-entries m q) (value_at q (map.entries m) h)

  pub values-changed : (m : map.FinMap nat_cmp V) (n : ℕ) (change : V → V)
      → ((v : V) → Q v → Q (change v)) → All (λ e. Q e.1) (map.entries m)
      → All (λ e. Q e.1)
      (map.entries (option_map_or (λ v. map.insert m n (change v)) (map.get m n) m))
  values-changed m n change keep h =
      elim (map.get m n)
      as (λ o. IfSome o Q
      → All (λ e. Q e.1) (map.entries (option_map_or (λ v. map.insert m n (change v)) o m))) [
        | None ↦ λ _. h
        | Some v ↦ λ q. values-insert m n (change v) h (keep v q)
      ] (value_in m n h)

-- ---- the empty map

no_entries : (X : Type 0) → map.entries (map.empty {X = X} {R = nat_cmp}) ≡ []
no_entries X =
    ap map.entries (sym (from_sorted-nil nat_cmp)) ∙ map.entries-from_sorted nat_cmp [] tt

pub none_in : (X : Type 0) (P : ℕ → Type 0) → All P (map.keys (map.empty {X = X} {R = nat_cmp}))
none_in X P =
    let none : map.entries (map.empty {X = X} {R = nat_cmp}) ≡ [] = no_entries X in
    rw none (All-nil P)

pub no_values : (X : Type 0) (Q : ℕ × X → Type 0)
    → All Q (map.entries (map.empty {X = X} {R = nat_cmp}))
no_values X Q =
    let none : map.entries (map.empty {X = X} {R = nat_cmp}) ≡ [] = no_entries X in
    rw none (All-nil Q)

-- ---- how many keys fit in a range

bounds_of : (most k : ℕ) → IsTrue (is_within most k) → (1 ≤ k) × (k ≤ most)
bounds_of most k h = (grind (arith, nat_tests), grind (arith, nat_tests))

above : (x k : ℕ) → is_lt (nat_cmp x k) ≡ true → x + 1 ≤ k
above x k h = grind (arith, nat_tests)

module _ {V : Type 0} (most : ℕ) where
  rises : (x : ℕ) (es : List (ℕ × V)) → T (below_all nat_cmp x es)
      → All (λ k. k ≤ most) (map_list (λ e. e.0) es)
      → All (λ k. (x + 1 ≤ k) × (k ≤ most)) (map_list (λ e. e.0) es)
  rises x [] s h = All-nil (λ k. (x + 1 ≤ k) × (k ≤ most))
  rises x (e ∷ es) s h =
      let rest : List ℕ = map_list (λ (x : ℕ × V). x.0) es in
      All-cons (λ k. (x + 1 ≤ k) × (k ≤ most)) e.0 rest (
        above x e.0 (to_true (and_left (is_lt (nat_cmp x e.0)) (below_all nat_cmp x es) s)),
        All-head (λ k. k ≤ most) e.0 rest h,
      )
      (rises x es (and_right (is_lt (nat_cmp x e.0)) (below_all nat_cmp x es) s)
      (All-tail (λ k. k ≤ most) e.0 rest h))

  sorted_fit : (least : ℕ) (es : List (ℕ × V)) → T (map.is_sorted nat_cmp es) → least ≤ most + 1
      → All (λ k. (least ≤ k) × (k ≤ most)) (map_list (λ e. e.0) es) → least + length es ≤ most + 1
  sorted_fit least [] s fit h = omega arith
  sorted_fit least (e ∷ es) s fit h =
      let rest : List ℕ = map_list (λ (x : ℕ × V). x.0) es in
      let head : (least ≤ e.0) × (e.0 ≤ most) =
      All-head (λ k. (least ≤ k) × (k ≤ most)) e.0 rest h in
      let low : All (λ k. k ≤ most) rest =
      All-weaker (λ k. (least ≤ k) × (k ≤ most)) (λ k. k ≤ most) (λ k b. b.1) rest
      (All-tail (λ k. (least ≤ k) × (k ≤ most)) e.0 rest h) in
      let more : e.0 + 1 + length es ≤ most + 1 =
      sorted_fit (e.0 + 1) es
      (and_right (below_all nat_cmp e.0 es) (map.is_sorted nat_cmp es) s) (omega arith)
      (rises e.0 es (and_left (below_all nat_cmp e.0 es) (map.is_sorted nat_cmp es) s) low) in
      omega arith

  -- keys from 1 to the most are at most so many
  pub len_fits : (m : map.FinMap nat_cmp V) → All (λ k. IsTrue (is_within most k)) (map.keys m)
      → map.len m ≤ most
  len_fits m h =
      let within : All (λ k. (1 ≤ k) × (k ≤ most)) (map.keys m) =
      All-weaker (λ k. IsTrue (is_within most k)) (λ k. (1 ≤ k) × (k ≤ most)) (bounds_of most)
      (map.keys m) h in
      let fit : 1 + length (map.entries m) ≤ most + 1 =
      sorted_fit 1 (map.entries m) (map.entries_sorted m) (omega arith) within in
      let is : map.len m ≡ length (map.entries m) = map.len-entries m in
      omega arith
