-- Entries that rise by their keys: which are below a key, and what a front of them finds. By them a
-- frame is filled, dimmer by dimmer.
use Rattle.patch_core.proofs.Terms.{◌≡◌, ◌≢◌, ℕ, ◌+◌, ◌<◌, ◌≤◌, true, false, IsTrue, List, [], ◌∷◌, ◌++◌}
use Rattle.patch_core.proofs.Terms.{length, get_or, take, drop, None, refl, arith, ◌-◌, set, Some, cond}
use Rattle.patch_core.proofs.Terms.{sym, ◌∙◌, replicate, All, map, AllWithin, range_with_len}
use Rattle.patch_core.proofs.Terms.{IsNonDecreasingBy, nat_cmp, eq_by_cmp, nat_cmp_total, unsigned_tied}
use Rattle.patch_core.proofs.Terms.{FinMap, find, is_sorted, entries, entries_sorted, from_sorted}
use Rattle.patch_core.proofs.Terms.{entries-from_sorted, same_entries_map, Less, nat_tests, get_or-take}
use Rattle.patch_core.proofs.Terms.{get_or-drop, length-drop, length-take, ext_get_or, get_or_default}
use Rattle.patch_core.proofs.Terms.{take_more, take-append-drop, get_or-replicate, get_or-set_other}
use Rattle.patch_core.proofs.Terms.{All-head, All-tail, All-from_get_or, sorted_at, from_true}
use Rattle.patch_core.proofs.Terms.{option_map_or, find-append, get_or-set_at, length-map-range_with_len}
use Rattle.patch_core.proofs.Terms.{get_or-map-range_with_len}

-- what a comparison and a test of keys say
pub below_of : (x y : ℕ) → nat_cmp x y ≡ Less → x < y
below_of x y h = grind (arith, nat_tests)

pub other_key : (x y : ℕ) → x ≢ y → eq_by_cmp nat_cmp x y ≡ false
other_key x y h = grind (arith, nat_tests, unsigned_tied x y)

pub same_key : (x y : ℕ) → x ≡ y → eq_by_cmp nat_cmp x y ≡ true
same_key x y h = grind (arith, nat_tests, unsigned_tied x y)

module _ {V : Type 0} where
  -- keys never fall along the entries
  pub rising : (es : List (ℕ × V)) → IsTrue (is_sorted nat_cmp es) → IsNonDecreasingBy (λ e. e.0) es
  rising es sorted i j d le lt = grind (
    arith,
    below_of (get_or es i d).0 (get_or es j d).0,
    λ (less : i < j). sorted_at nat_cmp nat_cmp_total es i j d (from_true sorted) less lt,
  )

  -- a key that no entry has is not found
  pub find_outside : (q : ℕ) (es : List (ℕ × V)) → All (λ e. q ≢ e.0) es → find nat_cmp q es ≡ None
  find_outside q [] h = refl
  find_outside q (e ∷ es) h =
      rw (other_key q e.0 (All-head (λ e. q ≢ e.0) e es h))
      (find_outside q es (All-tail (λ e. q ≢ e.0) e es h))

  -- what stands behind and has other keys is not looked at
  pub find_front : (q : ℕ) (xs ys : List (ℕ × V)) → All (λ e. q ≢ e.0) ys
      → find nat_cmp q (xs ++ ys) ≡ find nat_cmp q xs
  find_front q [] ys h = find_outside q ys h
  find_front q (x ∷ xs) ys h = rw (find_front q xs ys h) refl

  module _ (P : ℕ × V → Type 0) (es : List (ℕ × V)) (d : ℕ × V) where
    -- what holds below a place holds in front of it, and what holds from there on behind it
    pub All-take_below : (n : ℕ) → n ≤ length es → AllWithin P es 0 n → All P (take n es)
    All-take_below n le h = All-from_get_or P (take n es) d (λ i lt.
        let within : i < n = omega (arith, length-take {A = ℕ × V}) in
        rw (get_or-take n es i d within) (h i d (omega arith) within))

    pub All-drop_from : (n : ℕ) → AllWithin P es n (length es) → All P (drop n es)
    All-drop_from n h = All-from_get_or P (drop n es) d (λ i lt.
        let within : n + i < length es = omega (arith, length-drop {A = ℕ × V}) in
        rw get_or-drop (h (n + i) d (omega arith) within))

-- the map of a map's entries is the map
pub from_sorted-entries : {V : Type 0} (m : FinMap nat_cmp V) (es : List (ℕ × V)) → es ≡ entries m
    → from_sorted {R = nat_cmp} es ≡ m
from_sorted-entries m es is =
    rw is (same_entries_map _ _ (entries-from_sorted nat_cmp (entries m) (entries_sorted m)))

-- ---- a frame is filled dimmer by dimmer

-- a list is a map over a range, where each element is
pub frame_is : (f : ℕ → ℕ) (a n : ℕ) (xs : List ℕ) → length xs ≡ n
    → ((i : ℕ) → i < n → get_or xs i 0 ≡ f (a + i)) → xs ≡ map f (range_with_len a n)
frame_is f a n xs size each = ext_get_or 0 xs (map f (range_with_len a n))
    (size ∙ sym (length-map-range_with_len f a n))
    (λ i lt. let within : i < n = omega arith in each i within
    ∙ sym (get_or-map-range_with_len f a n i (a + i) 0 within refl))

-- the entries below a smaller key do not have the key
find_low : (es : List (ℕ × (ℕ × ℕ))) (q first n : ℕ) → n ≤ length es
    → AllWithin (λ e. e.0 < first) es 0 n → first ≤ q → find nat_cmp q (take n es) ≡ None
find_low es q first n le below low = find_outside q (take n es) (All-take_below (λ e. q ≢ e.0) es
    (0, (0, 0)) n le (λ i d from lt. omega (arith, below i d from lt)))

module _ (es : List (ℕ × (ℕ × ℕ))) (q : ℕ) where
  -- nor do the entries from a greater key on
  pub find_high : (last n : ℕ) → AllWithin (λ e. last ≤ e.0) es n (length es) → q < last
      → find nat_cmp q (take n es) ≡ find nat_cmp q es
  find_high last n from_on high =
      let others = All-drop_from (λ e. q ≢ e.0) es (0, (0, 0)) n
      (λ i d from lt. omega (arith, from_on i d from lt)) in
      rw (take-append-drop n es) at (sym (find_front q (take n es) (drop n es) others))

  -- one entry more
  pub find_more : IsTrue (is_sorted nat_cmp es) → (i : ℕ) (e x : ℕ × (ℕ × ℕ)) → i < length es
      → e ≡ get_or es i x
      → find nat_cmp q (take (i + 1) es) ≡ cond (eq_by_cmp nat_cmp q e.0) (Some e.1)
      (find nat_cmp q (take i es))
  find_more sorted i e x lt is =
      let none : find nat_cmp e.0 (take i es) ≡ None =
      find_low es e.0 e.0 i (omega arith) (λ j d low before. grind (
        arith,
        get_or_default es i d x lt,
        below_of (get_or es j d).0 (get_or es i d).0
            (sorted_at nat_cmp nat_cmp_total es j i d (from_true sorted) before lt),
      )) (omega arith) in
      rw (take_more es i x lt, ← is)
      (find-append nat_cmp nat_cmp_total (take i es) e.0 e.1 q none)

module _ (f : ℕ × ℕ → ℕ) (es : List (ℕ × (ℕ × ℕ))) (first : ℕ) where
  -- dark slots are those of no dimmer
  pub dark_at_first : (n : ℕ) → n ≤ length es → AllWithin (λ e. e.0 < first) es 0 n → (s : ℕ)
      → s < 512
      → get_or (replicate 512 0) s 0 ≡ option_map_or f (find nat_cmp (first + s) (take n es)) 0
  dark_at_first n le below s lt = rw (
    get_or-replicate {A = ℕ} 512 s 0 0 lt,
    find_low es (first + s) first n le below (omega arith),
  ) refl

  -- the write of the next dimmer's slot
  pub slots_more : IsTrue (is_sorted nat_cmp es) → (out : List ℕ) → length out ≡ 512
      → (i : ℕ) (x : ℕ × (ℕ × ℕ)) (at v : ℕ) → i < length es
      → first ≤ (get_or es i x).0 → at ≡ (get_or es i x).0 - first → at < 512
      → v ≡ f (get_or es i x).1
      → ((s : ℕ) → s < 512 → get_or out s 0 ≡ option_map_or f (find nat_cmp (first + s) (take i es))
      0)
      → (s : ℕ) → s < 512 → get_or (set out at v) s 0 ≡ option_map_or f
      (find nat_cmp (first + s) (take (i + 1) es)) 0
  slots_more sorted out size i x at v lt low place within value so_far s short =
      rw (find_more es (first + s) sorted i (get_or es i x) x lt refl) (grind (
        arith,
        get_or-set_at out at s v 0,
        get_or-set_other out at s v 0,
        same_key (first + s) (get_or es i x).0,
        other_key (first + s) (get_or es i x).0,
        so_far s short,
      ))
