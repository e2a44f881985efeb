-- Entries sorted by their keys: what a search finds, and what an edit at that place is.
use Rattle.show_core.proofs.Terms.{◌≡◌, ℕ, zero, suc, ◌+◌, ◌-◌, ◌<◌, Bool, true, false, IsTrue, ◌&&◌, T}
use Rattle.show_core.proofs.Terms.{List, [], ◌∷◌, ◌++◌, length, get_or, set, Some, None, Result, Ok, Err}
use Rattle.show_core.proofs.Terms.{IfOk, IfErr, refl, sym, ap, subst, ◌∙◌, arith, inl, inr, map, reverse}
use Rattle.show_core.proofs.Terms.{Ordering, Less, Equal, Greater, insert, IsSearchInRange}
use Rattle.show_core.proofs.Terms.{IsBinarySearchResult, IsNonDecreasingBy, is_lt, ordering_index}
use Rattle.show_core.proofs.Terms.{ordering_reverse, IsTotalOrder, find, put, is_sorted, from_sorted}
use Rattle.show_core.proofs.Terms.{get, entries, get-from_sorted, entries-from_sorted, entries-insert}
use Rattle.show_core.proofs.Terms.{same_entries_map, empty, empty_of_len, len-entries, below_all}
use Rattle.show_core.proofs.Terms.{is_sorted-put, cases_lt, reverse-append, map-append}
use Rattle.show_core.proofs.Terms.{searchable_from_sorted, IsAt, IsGap}
use Rattle.std.specs.FinMap.{insert as map_insert}

pub and_left : (a b : Bool) → T (a && b) → T a
and_left true b h = tt
and_left false b h = h

pub and_right : (a b : Bool) → T (a && b) → T b
and_right true b h = h
and_right false b h = absurd h

pub from_true : {b : Bool} → IsTrue b → T b
from_true h = subst T (sym h) tt

pub to_true : {b : Bool} → T b → IsTrue b
to_true {b} h = elim b as (λ v. T v → v ≡ true) [ true ↦ λ _. refl | false ↦ λ g. absurd g ] h

pub not_so : {A : Type 0} → false ≡ true → A
not_so e = absurd (subst T (sym e) tt)

pub less : (r : Ordering) → T (is_lt r) → r ≡ Less
less Less h = refl
less Equal h = absurd h
less Greater h = absurd h

-- the other way round
pub turned : {K : Type 0} {R : K → K → Ordering} → IsTotalOrder R → (x y : K) (r : Ordering)
    → R x y ≡ r → R y x ≡ ordering_reverse r
turned o x y r e = o.antisymm y x ∙ ap ordering_reverse e

module _ {K V : Type 0} (R : K → K → Ordering) (o : IsTotalOrder R) where
  below_at : (x : K) (es : List (K × V)) (j : ℕ) (d : K × V) → T (below_all R x es) → j < length es
      → R x (get_or es j d).0 ≡ Less
  below_at x [] j d h lt = absurd (omega arith)
  below_at x (e ∷ es) zero d h lt = less _ (and_left _ _ h)
  below_at x (e ∷ es) (suc j) d h lt = below_at x es j d (and_right _ _ h) (omega arith)

  -- a smaller place has a smaller key
  pub sorted_at : (es : List (K × V)) (i j : ℕ) (d : K × V) → T (is_sorted R es) → i < j
      → j < length es → R (get_or es i d).0 (get_or es j d).0 ≡ Less
  sorted_at [] i j d h lt in_range = absurd (omega arith)
  sorted_at (e ∷ es) i zero d h lt in_range = absurd (omega arith)
  sorted_at (e ∷ es) zero (suc j) d h lt in_range =
      below_at e.0 es j d (and_left _ _ h) (omega arith)
  sorted_at (e ∷ es) (suc i) (suc j) d h lt in_range =
      sorted_at es i j d (and_right _ _ h) (omega arith) (omega arith)

  pub is_at_tail : (e : K × V) (es : List (K × V)) (key : K) (i : ℕ) → IsAt R (e ∷ es) key (suc i)
      → IsAt R es key i
  is_at_tail e es key i h = record {
    in_range = omega (arith, h.in_range);
    smaller_before = λ j d lt. h.smaller_before (suc j) d (omega arith);
    has_key = λ d. h.has_key d;
  }

  pub is_gap_tail : (e : K × V) (es : List (K × V)) (key : K) (i : ℕ) → IsGap R (e ∷ es) key (suc i)
      → IsGap R es key i
  is_gap_tail e es key i h = record {
    in_range = omega (arith, h.in_range);
    smaller_before = λ j d lt. h.smaller_before (suc j) d (omega arith);
    greater_after = λ j d le lt. h.greater_after (suc j) d (omega arith) (omega arith);
  }

  pub put_at : (es : List (K × V)) (key : K) (v : V) (i : ℕ) (d : K × V) → IsAt R es key i
      → put R key v es ≡ set es i ((get_or es i d).0, v)
  put_at [] key v i d h = absurd (omega (arith, h.in_range))
  put_at (e ∷ es) key v zero d h = rw (turned o e.0 key Equal (h.has_key d)) refl
  put_at (e ∷ es) key v (suc i) d h =
      rw (turned o e.0 key Less (h.smaller_before 0 d (omega arith)))
      (ap (λ l. e ∷ l) (put_at es key v i d (is_at_tail e es key i h)))

  pub find_at : (es : List (K × V)) (key : K) (i : ℕ) (d : K × V) → IsAt R es key i
      → find R key es ≡ Some (get_or es i d).1
  find_at [] key i d h = absurd (omega (arith, h.in_range))
  find_at (e ∷ es) key zero d h = rw (turned o e.0 key Equal (h.has_key d)) refl
  find_at (e ∷ es) key (suc i) d h =
      rw (turned o e.0 key Less (h.smaller_before 0 d (omega arith)))
      (find_at es key i d (is_at_tail e es key i h))

  pub put_gap : (es : List (K × V)) (key : K) (v : V) (i : ℕ) → IsGap R es key i
      → put R key v es ≡ insert es i (key, v)
  put_gap [] key v zero h = refl
  put_gap [] key v (suc i) h = absurd (omega (arith, h.in_range))
  put_gap (e ∷ es) key v zero h =
      rw (turned o e.0 key Greater (h.greater_after 0 e (omega arith) (omega arith))) refl
  put_gap (e ∷ es) key v (suc i) h =
      rw (turned o e.0 key Less (h.smaller_before 0 e (omega arith)))
      (ap (λ l. e ∷ l) (put_gap es key v i (is_gap_tail e es key i h)))

  pub find_gap : (es : List (K × V)) (key : K) (i : ℕ) → IsGap R es key i → find R key es ≡ None
  find_gap [] key i h = refl
  find_gap (e ∷ es) key zero h =
      rw (turned o e.0 key Greater (h.greater_after 0 e (omega arith) (omega arith)))
      (find_gap es key zero (record {
        in_range = omega arith;
        smaller_before = λ j d lt. absurd (omega arith);
        greater_after = λ j d le lt. h.greater_after (suc j) d (omega arith) (omega arith);
      }))
  find_gap (e ∷ es) key (suc i) h =
      rw (turned o e.0 key Less (h.smaller_before 0 e (omega arith)))
      (find_gap es key i (is_gap_tail e es key i h))

  -- the comparisons with a key rise along the entries
  rise : (es : List (K × V)) (key : K) → T (is_sorted R es)
      → IsNonDecreasingBy (λ e. ordering_index (R e.0 key)) es
  rise es key sorted =
      searchable_from_sorted o (λ e. e.0) es key
      (λ k d le lt. ap is_lt
      (turned o (get_or es k d).0 (get_or es (k + 1) d).0 Less
      (sorted_at es k (k + 1) d sorted (omega arith) lt)))

  -- a binary search by key ends at the key, or at the gap for it
  pub searched : (es : List (K × V)) (key : K) → IsTrue (is_sorted R es) → (r : Result ℕ ℕ)
      → IsSearchInRange r (length es) → IsBinarySearchResult (λ e. R e.0 key) es r
      → record { found : IfOk r (IsAt R es key); absent : IfErr r (IsGap R es key) }
  searched es key sorted (Ok at) in_range equal = record {
    found = record {
      in_range = in_range;
      smaller_before = λ j d lt.
          let below = sorted_at es j at d (from_true sorted) lt in_range in
          let ties = turned o (get_or es at d).0 key Equal (equal d) in
          turned o key (get_or es j d).0 Greater
          (o.congr key (get_or es at d).0 (get_or es j d).0 ties
          ∙ turned o (get_or es j d).0 (get_or es at d).0 Less below);
      has_key = equal;
    };
    absent = tt;
  }
  searched es key sorted (Err at) in_range parted = record {
    found = tt;
    absent = record {
      in_range = in_range;
      smaller_before = λ j d lt. (parted (rise es key (from_true sorted))).0 j d (omega arith) lt;
      greater_after = λ j d le lt. (parted (rise es key (from_true sorted))).1 j d le lt;
    };
  }

  -- a key above that of the last entry goes behind it
  pub gap_end : (es : List (K × V)) (key : K) → IsTrue (is_sorted R es)
      → ((d : K × V) → R (get_or es (length es - 1) d).0 key ≡ Less) → IsGap R es key (length es)
  gap_end es key sorted last = record {
    in_range = omega arith;
    smaller_before = λ j d lt.
        elim (cases_lt j (length es - 1)) [
          | inl before ↦ o.trans (get_or es j d).0 (get_or es (length es - 1) d).0 key
              (sorted_at es j (length es - 1) d (from_true sorted) before (omega arith)) (last d)
          | inr behind ↦ let same : j ≡ length es - 1 = omega arith in rw same (last d)
        ];
    greater_after = λ j d le lt. absurd (omega arith);
  }

module _ {K V : Type 0} (R : K → K → Ordering) (o : IsTotalOrder R) (es : List (K × V))
    (sorted : IsTrue (is_sorted R es)) where
  pub sorted_put : (key : K) (v : V) → IsTrue (is_sorted R (put R key v es))
  sorted_put key v = to_true (is_sorted-put R o key v es (from_true sorted))

  -- the map of the entries: what it gets, what it lists, and what an edit makes of it
  pub get_is : (q : K) → get (from_sorted {R = R} es) q ≡ find R q es
  get_is q = get-from_sorted R es q (from_true sorted)

  pub entries_are : entries (from_sorted {R = R} es) ≡ es
  entries_are = entries-from_sorted R es (from_true sorted)

  pub from_sorted-put : (key : K) (v : V)
      → from_sorted {R = R} (put R key v es) ≡ map_insert (from_sorted es) key v
  from_sorted-put key v =
      same_entries_map _ _
      (entries-from_sorted R (put R key v es) (from_true (sorted_put key v))
      ∙ sym (entries-insert o (from_sorted es) key v ∙ ap (put R key v) entries_are))

  -- a write to the value at the place that a search found
  pub set_at : (key : K) (i : ℕ) (e : K × V) (v : V) → IsAt R es key i → e ≡ get_or es i e
      → set es i (e.0, v) ≡ put R key v es
  set_at key i e v at is = sym (put_at R o es key v i e at ∙ ap (λ x. set es i (x.0, v)) (sym is))

pub from_sorted-nil : {K V : Type 0} (R : K → K → Ordering) → from_sorted {X = V} {R = R} [] ≡ empty
from_sorted-nil R = empty_of_len _ (len-entries _ ∙ ap length (entries-from_sorted R [] tt))

-- the keys of the entries in reverse
pub map-reverse : {A B : Type 0} (f : A → B) (xs : List A) → map f (reverse xs) ≡ reverse (map f xs)
map-reverse f [] = refl
map-reverse f (x ∷ xs) =
    ap (map f) (reverse-append (x ∷ []) xs) ∙ map-append f (reverse xs) (x ∷ [])
    ∙ ap (λ l. l ++ f x ∷ []) (map-reverse f xs) ∙ sym (reverse-append (f x ∷ []) (map f xs))
