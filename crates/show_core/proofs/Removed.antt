-- The entries but for one key.
use Rattle.show_core.proofs.Terms.{◌≡◌, ℕ, zero, suc, Bool, true, false, not, cond, IsTrue, T, List, []}
use Rattle.show_core.proofs.Terms.{◌∷◌, refl, sym, ap, ◌∙◌, arith, Option, None, Ordering, Less, Equal}
use Rattle.show_core.proofs.Terms.{Greater, remove, is_lt, is_eq, eq_by_cmp, IsTotalOrder, alike_right}
use Rattle.show_core.proofs.Terms.{eq_by_cmp_equiv, below_all, find-where_key, is_sorted-where_key, IsAt}
use Rattle.show_core.proofs.Terms.{IsGap, without}
use Rattle.std.specs.FinMap as map
use Rattle.show_core.proofs.Sorted.{turned, and_left, and_right, less, from_true, to_true}
use Rattle.show_core.proofs.Sorted.{is_at_tail, is_gap_tail}

module _ {K V : Type 0} (R : K → K → Ordering) (o : IsTotalOrder R) (key : K) where
  -- all keys are above the key, so all stay
  all_stay : (x : K) (es : List (K × V)) → R x key ≡ Equal → T (below_all R x es)
      → without R key es ≡ es
  all_stay x [] t h = refl
  all_stay x (e ∷ es) t h =
      let above : R key e.0 ≡ Less = sym (o.congr x key e.0 t)
      ∙ less (R x e.0) (and_left (is_lt (R x e.0)) (below_all R x es) h) in
      rw above (ap (λ l. e ∷ l)
      (all_stay x es t (and_right (is_lt (R x e.0)) (below_all R x es) h)))

  -- the key is that at the place
  pub remove_at : (es : List (K × V)) (i : ℕ) → IsAt R es key i → T (map.is_sorted R es)
      → remove es i ≡ without R key es
  remove_at [] i h s = absurd (omega (arith, h.in_range))
  remove_at (e ∷ es) zero h s =
      rw (turned o e.0 key Equal (h.has_key e))
      (sym (all_stay e.0 es (h.has_key e) (and_left _ _ s)))
  remove_at (e ∷ es) (suc i) h s =
      rw (turned o e.0 key Less (h.smaller_before 0 e (omega arith)))
      (ap (λ l. e ∷ l) (remove_at es i (is_at_tail R o e es key i h) (and_right _ _ s)))

  -- the key is not there
  pub without_gap : (es : List (K × V)) (i : ℕ) → IsGap R es key i → without R key es ≡ es
  without_gap [] i h = refl
  without_gap (e ∷ es) zero h =
      let rest : IsGap R es key 0 = record {
        in_range = omega arith;
        smaller_before = λ j d lt. absurd (omega arith);
        greater_after = λ j d le lt. h.greater_after (suc j) d (omega arith) (omega arith);
      } in
      rw (turned o e.0 key Greater (h.greater_after 0 e (omega arith) (omega arith)))
      (ap (λ l. e ∷ l) (without_gap es zero rest))
  without_gap (e ∷ es) (suc i) h =
      rw (turned o e.0 key Less (h.smaller_before 0 e (omega arith)))
      (ap (λ l. e ∷ l) (without_gap es i (is_gap_tail R o e es key i h)))

  pub sorted_without : (es : List (K × V)) → IsTrue (map.is_sorted R es)
      → IsTrue (map.is_sorted R (without R key es))
  sorted_without es s =
      to_true (is_sorted-where_key R (λ x. not (eq_by_cmp R key x)) es (from_true s))

  pub find-without : (es : List (K × V)) (q : K)
      → map.find R q (without R key es) ≡ cond (eq_by_cmp R q key) None (map.find R q es)
  find-without es q =
      find-where_key R (λ x. not (eq_by_cmp R key x)) q
      (λ x t. ap (λ r. not (is_eq r)) (sym (alike_right o q x key t))) es
      ∙ turn (eq_by_cmp R key q) (map.find R q es) None
      ∙ ap (λ b. cond b None (map.find R q es)) ((eq_by_cmp_equiv o).symm key q)
    where
      turn : (b : Bool) (x y : Option V) → cond (not b) x y ≡ cond b y x
      turn true x y = refl
      turn false x y = refl

  -- their map has lost the key
  pub from_sorted-without : map.IsAntisymmetric R → (es : List (K × V))
      → IsTrue (map.is_sorted R es)
      → map.from_sorted {R = R} (without R key es) ≡ map.remove (map.from_sorted es) key
  from_sorted-without same es s = map.same_map o same _ _ (λ q.
      map.get-from_sorted R (without R key es) q (from_true (sorted_without es s))
      ∙ find-without es q
      ∙ sym (map.get-remove o (map.from_sorted es) key q
      ∙ ap (cond (eq_by_cmp R q key) None) (map.get-from_sorted R es q (from_true s))))

pub entries-remove : {K V : Type 0} (R : K → K → Ordering) → IsTotalOrder R → map.IsAntisymmetric R
    → (m : map.FinMap R V) (key : K)
    → map.entries (map.remove m key) ≡ without R key (map.entries m)
entries-remove R o same m key =
    let es = map.entries m in
    let s : IsTrue (map.is_sorted R es) = to_true (map.entries_sorted m) in
    let again : map.from_sorted es ≡ m =
    map.same_entries_map (map.from_sorted es) m
    (map.entries-from_sorted R es (map.entries_sorted m)) in
    ap (λ n. map.entries (map.remove n key)) (sym again)
    ∙ ap map.entries (sym (from_sorted-without R o key same es s))
    ∙ map.entries-from_sorted R (without R key es) (from_true (sorted_without R o key es s))
