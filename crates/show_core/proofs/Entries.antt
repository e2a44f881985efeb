-- Many entries put into sorted ones, and what that is to their map.
use Rattle.show_core.proofs.Terms.{◌≡◌, ◌≢◌, ℕ, zero, suc, ◌+◌, ◌-◌, ◌<◌, ◌≤◌, ◌==◌, true, false, Bool}
use Rattle.show_core.proofs.Terms.{not, cond, IsTrue, T, List, [], ◌∷◌, ◌++◌, length, get_or, set, take}
use Rattle.show_core.proofs.Terms.{count_by, Option, Some, None, refl, sym, ap, ◌∙◌, arith, inl, inr}
use Rattle.show_core.proofs.Terms.{append_assoc, drop, subst, All, filter, nat_lt, option_map, list_all}
use Rattle.show_core.proofs.Terms.{option_to_list, nat_cmp, is_lt, is_eq, eq_by_cmp, nat_cmp_total}
use Rattle.show_core.proofs.Terms.{tied_itself, below_all, find-put, find-append, Less, Equal, Greater}
use Rattle.show_core.proofs.Terms.{cases_lt, nat_tests, drop_more, take_more, length-set}
use Rattle.show_core.proofs.Terms.{get_or-set_same, get_or-set_other, All-head, All-tail, All-map}
use Rattle.show_core.proofs.Terms.{All-same, All-push, sum_by-cons, tells_apart, exact_unsigned}
use Rattle.show_core.proofs.Terms.{is_channel, without, with_entry, with_entries, with_all, IsTableOf}
use Rattle.show_core.proofs.Terms.{LevelMap, PatchMap, with_bytes, patched_with, all_patched}
use Rattle.std.specs.Prelude.{map as map_list}
use Rattle.std.specs.FinMap as map
use Rattle.show_core.proofs.Sorted.{sorted_put, from_sorted-put, sorted_at, turned, less, not_so}
use Rattle.show_core.proofs.Sorted.{and_left, and_right, from_true, to_true}
use Rattle.show_core.proofs.Removed.{sorted_without, from_sorted-without, find-without}
use Rattle.show_core.proofs.Ranges.{keys-insert, keys-put, keys-without, entries_from_keys}
use Rattle.show_core.proofs.Ordinals.{below_of}

-- what is left of a list begins with its next element
pub next_of : {X : Type 0} (ps : List X) (i : ℕ) (p : X) → i < length ps → p ≡ get_or ps i p
    → drop i ps ≡ p ∷ drop (i + 1) ps
next_of ps i p lt is = drop_more ps i p lt ∙ ap (λ x. x ∷ drop (i + 1) ps) (sym is)

module _ {V : Type 0} (stays : V → Bool) where
  pub sorted_with_entry : (es : List (ℕ × V)) (p : ℕ × V) → IsTrue (map.is_sorted nat_cmp es)
      → IsTrue (map.is_sorted nat_cmp (with_entry stays es p))
  sorted_with_entry es p sorted =
      elim (stays p.1)
      as (λ b. IsTrue (map.is_sorted nat_cmp
      (cond b (map.put nat_cmp p.0 p.1 es) (without nat_cmp p.0 es)))) [
        | true ↦ sorted_put nat_cmp nat_cmp_total es sorted p.0 p.1
        | false ↦ sorted_without nat_cmp nat_cmp_total p.0 es sorted
      ]

  pub sorted_with_entries : (es ps : List (ℕ × V)) → IsTrue (map.is_sorted nat_cmp es)
      → IsTrue (map.is_sorted nat_cmp (with_entries stays es ps))
  sorted_with_entries es [] sorted = sorted
  sorted_with_entries es (p ∷ ps) sorted =
      sorted_with_entries (with_entry stays es p) ps (sorted_with_entry es p sorted)

  -- the next of the list
  pub with_next : (es es' rest ds : List (ℕ × V)) (p : ℕ × V) (b : Bool) → stays p.1 ≡ b
      → es' ≡ cond b (map.put nat_cmp p.0 p.1 es) (without nat_cmp p.0 es) → ds ≡ p ∷ rest
      → with_entries stays es' rest ≡ with_entries stays es ds
  with_next es es' rest ds p b says is more =
      ap (λ x. with_entries stays x rest)
      (is ∙ ap (λ x. cond x (map.put nat_cmp p.0 p.1 es) (without nat_cmp p.0 es)) (sym says))
      ∙ sym (ap (with_entries stays es) more)

  pub count_next : (rest ds : List (ℕ × V)) (p : ℕ × V) (b : Bool) → stays p.1 ≡ b → ds ≡ p ∷ rest
      → count_by (λ e. stays e.1) ds ≡ cond b 1 0 + count_by (λ e. stays e.1) rest
  count_next rest ds p b says more =
      ap (count_by (λ e. stays e.1)) more
      ∙ sum_by-cons (λ (e : ℕ × V). cond (stays e.1) 1 0) p rest
      ∙ ap (λ x. cond x 1 0 + count_by (λ (e : ℕ × V). stays e.1) rest) says

  -- the map of the entries, with more of them
  pub from_sorted-with_entries : (es ps : List (ℕ × V)) → IsTrue (map.is_sorted nat_cmp es)
      → map.from_sorted (with_entries stays es ps) ≡ with_all stays (map.from_sorted es) ps
  from_sorted-with_entries es [] sorted = refl
  from_sorted-with_entries es (p ∷ ps) sorted =
      from_sorted-with_entries (with_entry stays es p) ps (sorted_with_entry es p sorted)
      ∙ ap (λ m. with_all stays m ps)
      (elim (stays p.1)
      as (λ b. map.from_sorted {R = nat_cmp}
      (cond b (map.put nat_cmp p.0 p.1 es) (without nat_cmp p.0 es))
      ≡ cond b (map.insert (map.from_sorted es) p.0 p.1) (map.remove (map.from_sorted es) p.0)) [
        | true ↦ from_sorted-put nat_cmp nat_cmp_total es sorted p.0 p.1
        | false ↦ from_sorted-without nat_cmp nat_cmp_total p.0 map.nat_cmp-IsAntisymmetric es
            sorted
      ])

-- each level stays
pub with_bytes_all : (levels : LevelMap) (ps : List (ℕ × ℕ))
    → with_all (λ _. true) levels ps ≡ with_bytes levels ps
with_bytes_all levels [] = refl
with_bytes_all levels (p ∷ ps) = with_bytes_all (map.insert levels p.0 p.1) ps

-- channel 0 leaves a dimmer unpatched
pub all_patched_all : (patch : PatchMap) (ps : List (ℕ × (ℕ × ℕ)))
    → all_patched patch ps ≡ with_all (λ v. not (v.0 == 0)) patch ps
all_patched_all patch [] = refl
all_patched_all patch (p ∷ ps) =
    all_patched_all (patched_with patch p.0 p.1.0 p.1.1) ps
    ∙ ap (λ m. with_all (λ v. not (v.0 == 0)) m ps)
    (elim (p.1.0 == 0)
    as (λ b. cond b (map.remove patch p.0) (map.insert patch p.0 p.1)
    ≡ cond (not b) (map.insert patch p.0 p.1) (map.remove patch p.0))
    [ true ↦ refl | false ↦ refl ])

-- the channels of more levels are in their range
pub keys-with_bytes : (levels : LevelMap) (ps : List (ℕ × ℕ))
    → All (λ c. IsTrue (is_channel c)) (map.keys levels)
    → IsTrue (list_all (λ p. is_channel p.0) ps)
    → All (λ c. IsTrue (is_channel c)) (map.keys (with_bytes levels ps))
keys-with_bytes levels [] h in_range = h
keys-with_bytes levels (p ∷ ps) h in_range =
    let rest = list_all (λ (x : ℕ × ℕ). is_channel x.0) ps in
    keys-with_bytes (map.insert levels p.0 p.1) ps
    (keys-insert (λ c. IsTrue (is_channel c)) levels p.0 p.1 h
    (to_true (and_left (is_channel p.0) rest (from_true in_range))))
    (to_true (and_right (is_channel p.0) rest (from_true in_range)))

pub count_none : {X : Type 0} (test : X → Bool) (xs : List X) → IsTrue (list_all test xs)
    → count_by (λ x. not (test x)) xs ≡ 0
count_none test [] h = refl
count_none {X} test (x ∷ xs) h =
    let one : test x ≡ true = to_true (and_left (test x) (list_all test xs) (from_true h)) in
    let rest = count_none test xs (to_true (and_right (test x) (list_all test xs) (from_true h))) in
    sum_by-cons (λ (y : X). cond (not (test y)) 1 0) x xs
    ∙ ap (λ b. cond (not b) 1 0 + count_by (λ y. not (test y)) xs) one
    ∙ omega (arith, rest)

pub ruleset levelled = (with_bytes_all)

pub ruleset patched = (all_patched_all, count_none)

-- ---- entries behind all others

module _ {V : Type 0} (stays : V → Bool) where
  pub with_entries-push : (es ps : List (ℕ × V)) (p : ℕ × V)
      → with_entries stays es (ps ++ p ∷ []) ≡ with_entry stays (with_entries stays es ps) p
  with_entries-push es [] p = refl
  with_entries-push es (q ∷ ps) p = with_entries-push (with_entry stays es q) ps p

  pub with_entries-more : (es ps : List (ℕ × V)) (i : ℕ) (p : ℕ × V) → i < length ps
      → p ≡ get_or ps i p → with_entries stays es (take (i + 1) ps)
      ≡ with_entry stays (with_entries stays es (take i ps)) p
  with_entries-more es ps i p lt is =
      ap (with_entries stays es)
      (take_more ps i p lt ∙ ap (λ x. take i ps ++ x ∷ []) (sym is))
      ∙ with_entries-push es (take i ps) p

greater : (x k : ℕ) → x < k → nat_cmp k x ≡ Greater
greater x k lt = grind (arith, nat_tests)

pub put_end : {V : Type 0} (es : List (ℕ × V)) (k : ℕ) (v : V) → All (λ e. e.0 < k) es
    → map.put nat_cmp k v es ≡ es ++ (k, v) ∷ []
put_end [] k v below = refl
put_end {V} (e ∷ es) k v below =
    rw (greater e.0 k (All-head (λ (x : ℕ × V). x.0 < k) e es below))
    (ap (λ l. e ∷ l) (put_end es k v (All-tail (λ (x : ℕ × V). x.0 < k) e es below)))

-- the next of the list goes behind all others
module _ {V : Type 0} (stays : V → Bool) (es ps : List (ℕ × V)) (i least : ℕ) (p : ℕ × V)
    (lt : i < length ps) (is : p ≡ get_or ps i p) (from : least ≤ p.0)
    (below : All (λ e. e.0 < least) (es ++ take i ps)) where
  one_more : es ++ take (i + 1) ps ≡ (es ++ take i ps) ++ p ∷ []
  one_more =
      ap (λ l. es ++ l) (take_more ps i p lt ∙ ap (λ x. take i ps ++ x ∷ []) (sym is))
      ∙ sym (append_assoc es (take i ps) (p ∷ []))

  pub behind_below : (next : ℕ) → p.0 < next → All (λ e. e.0 < next) (es ++ take (i + 1) ps)
  behind_below next behind =
      All-same (λ e. e.0 < next) _ _ one_more
      (All-push (λ e. e.0 < next) (es ++ take i ps) p
      (λ k d within. omega (arith, from, behind, below k d within)) behind)

  pub behind_more : stays p.1 ≡ true → with_entries stays es (take i ps) ≡ es ++ take i ps
      → with_entries stays es (take (i + 1) ps) ≡ es ++ take (i + 1) ps
  behind_more says so_far =
      with_entries-more stays es ps i p lt is
      ∙ ap (λ x. with_entry stays x p) so_far
      ∙ ap (λ b. cond b (map.put nat_cmp p.0 p.1 (es ++ take i ps))
      (without nat_cmp p.0 (es ++ take i ps))) says
      ∙ put_end (es ++ take i ps) p.0 p.1 (λ k d within. omega (arith, from, below k d within))
      ∙ sym one_more

-- all keys are below one more than the last
pub below_end : {V : Type 0} (es : List (ℕ × V)) (k : ℕ) → IsTrue (map.is_sorted nat_cmp es)
    → ((d : ℕ × V) → (get_or es (length es - 1) d).0 ≡ k) → All (λ e. e.0 < k + 1) es
below_end es k sorted last i d lt =
    elim (cases_lt i (length es - 1)) [
      | inl before ↦
          let below = below_of (get_or es i d).0 (get_or es (length es - 1) d).0
          (sorted_at nat_cmp nat_cmp_total es i (length es - 1) d (from_true sorted) before
          (omega arith)) in
          omega (arith, below, last d)
      | inr behind ↦
          let same : i ≡ length es - 1 = omega arith in
          rw same (omega (arith, last d))
    ]

-- ---- a table with a place for each key

apart : (k q : ℕ) → eq_by_cmp nat_cmp k q ≡ false → k ≢ q
apart k q differ same =
    not_so
    (sym differ ∙ ap (eq_by_cmp nat_cmp k) (sym same) ∙ ap is_eq (tied_itself nat_cmp_total k))

-- a write at a key
pub table_set : {V : Type 0} (table : List (Option V)) (es fs : List (ℕ × V)) (key : ℕ)
    (v : Option V)
    → IsTableOf table es → key < length table
    → ((k : ℕ) → map.find nat_cmp k fs ≡ cond (eq_by_cmp nat_cmp k key) v (map.find nat_cmp k es))
    → IsTableOf (set table key v) fs
table_set table es fs key v holds fits found k lt =
    let within : k < length table = rw (← length-set table key v) lt in
    elim (eq_by_cmp nat_cmp k key)
    as (λ b. eq_by_cmp nat_cmp k key ≡ b
    → get_or (set table key v) k None ≡ cond b v (map.find nat_cmp k es)) [
      | true ↦ λ e. ap (λ q. get_or (set table key v) q None) (tells_apart exact_unsigned k key e)
          ∙ get_or-set_same table key v None fits
      | false ↦ λ e. get_or-set_other table key k v None (apart k key e) ∙ holds k within
    ] refl
    ∙ sym (found k)

below_next : (x k : ℕ) → nat_cmp k x ≡ Less
    → (nat_lt x (k + 1) ≡ false) × (nat_lt x k ≡ false)
below_next x k is = (grind (arith, nat_tests), grind (arith, nat_tests))

at_next : (x k : ℕ) → nat_cmp k x ≡ Equal
    → (nat_lt x (k + 1) ≡ true) × (nat_lt x k ≡ false) × (x ≡ k)
at_next x k is = (grind (arith, nat_tests), grind (arith, nat_tests), grind (arith, nat_tests))

above_next : (x k : ℕ) → nat_cmp k x ≡ Greater
    → (nat_lt x (k + 1) ≡ true) × (nat_lt x k ≡ true)
above_next x k is = (grind (arith, nat_tests), grind (arith, nat_tests))

-- what entries have with one more
module _ {V : Type 0} where
  find_before : (es : List (ℕ × V)) (i : ℕ) (d : ℕ × V) → T (map.is_sorted nat_cmp es)
      → i < length es → map.find nat_cmp (get_or es i d).0 (take i es) ≡ None
  find_before [] i d sorted lt = absurd (omega arith)
  find_before (e ∷ es) zero d sorted lt = refl
  find_before (e ∷ es) (suc i) d sorted lt =
      let below = sorted_at nat_cmp nat_cmp_total (e ∷ es) 0 (suc i) d sorted (omega arith) lt in
      rw (turned nat_cmp_total e.0 (get_or es i d).0 Less below)
      (find_before es i d (and_right (below_all nat_cmp e.0 es) (map.is_sorted nat_cmp es) sorted)
      (omega arith))

  pub find_more : (es : List (ℕ × V)) (i : ℕ) (p : ℕ × V) → IsTrue (map.is_sorted nat_cmp es)
      → i < length es → p ≡ get_or es i p → (k : ℕ) → map.find nat_cmp k (take (i + 1) es)
      ≡ cond (eq_by_cmp nat_cmp k p.0) (Some p.1) (map.find nat_cmp k (take i es))
  find_more es i p sorted lt is k =
      ap (map.find nat_cmp k) (take_more es i p lt ∙ ap (λ x. take i es ++ x ∷ []) (sym is))
      ∙ find-append nat_cmp nat_cmp_total (take i es) p.0 p.1 k
      (ap (λ x. map.find nat_cmp x.0 (take i es)) is ∙ find_before es i p (from_true sorted) lt)

  pub find_with_entry : (stays : V → Bool) (es : List (ℕ × V)) (p : ℕ × V) (k : ℕ)
      → map.find nat_cmp k (with_entry stays es p)
      ≡ cond (eq_by_cmp nat_cmp k p.0) (cond (stays p.1) (Some p.1) None) (map.find nat_cmp k es)
  find_with_entry stays es p k =
      elim (stays p.1)
      as (λ b. map.find nat_cmp k (cond b (map.put nat_cmp p.0 p.1 es) (without nat_cmp p.0 es))
      ≡ cond (eq_by_cmp nat_cmp k p.0) (cond b (Some p.1) None) (map.find nat_cmp k es)) [
        | true ↦ find-put nat_cmp nat_cmp_total k p.0 p.1 es
        | false ↦ find-without nat_cmp nat_cmp_total p.0 es k
      ]

  -- ---- the entries of a table

  none_below : (x n : ℕ) (es : List (ℕ × V)) → T (below_all nat_cmp x es) → n ≤ x + 1
      → filter (λ e. nat_lt e.0 n) es ≡ []
  none_below x n [] below le = refl
  none_below x n (e ∷ es) below le =
      let less =
      below_of x e.0 (less (nat_cmp x e.0) (and_left _ (below_all nat_cmp x es) below)) in
      let not_below : nat_lt e.0 n ≡ false = grind (arith, nat_tests) in
      rw not_below (none_below x n es (and_right (is_lt (nat_cmp x e.0)) _ below) le)

  filter_more : (es : List (ℕ × V)) (k : ℕ) → T (map.is_sorted nat_cmp es)
      → filter (λ e. nat_lt e.0 (k + 1)) es ≡ filter (λ e. nat_lt e.0 k) es
      ++ option_to_list (option_map (λ v. (k, v)) (map.find nat_cmp k es))
  filter_more [] k sorted = refl
  filter_more (e ∷ es) k sorted =
      let more = filter_more es k
      (and_right (below_all nat_cmp e.0 es) (map.is_sorted nat_cmp es) sorted) in
      let above = and_left (below_all nat_cmp e.0 es) (map.is_sorted nat_cmp es) sorted in
      elim (nat_cmp k e.0)
      as (λ r. nat_cmp k e.0 ≡ r → filter (λ x. nat_lt x.0 (k + 1)) (e ∷ es)
      ≡ filter (λ x. nat_lt x.0 k) (e ∷ es)
      ++ option_to_list
      (option_map (λ v. (k, v)) (cond (is_eq r) (Some e.1) (map.find nat_cmp k es)))) [
        | Less ↦ λ is. let tests = below_next e.0 k is in rw (tests.0, tests.1) more
        | Equal ↦ λ is.
            let tests = at_next e.0 k is in
            rw (
              tests.0,
              tests.1,
              none_below e.0 (k + 1) es above (omega (arith, tests.2)),
              none_below e.0 k es above (omega (arith, tests.2)),
            ) (ap (λ x. (x, e.1) ∷ []) tests.2)
        | Greater ↦ λ is.
            let tests = above_next e.0 k is in rw (tests.0, tests.1) (ap (λ l. e ∷ l) more)
      ] refl

  pub filter_all : (es : List (ℕ × V)) (n : ℕ) → All (λ e. e.0 < n) es
      → filter (λ e. nat_lt e.0 n) es ≡ es
  filter_all [] n below = refl
  filter_all (e ∷ es) n below =
      let less : e.0 < n = All-head (λ (x : ℕ × V). x.0 < n) e es below in
      let is_below : nat_lt e.0 n ≡ true = grind (arith, nat_tests) in
      rw is_below (ap (λ l. e ∷ l) (filter_all es n (All-tail (λ (x : ℕ × V). x.0 < n) e es below)))

  pub filter_none : (es : List (ℕ × V)) → filter (λ e. nat_lt e.0 0) es ≡ []
  filter_none [] = refl
  filter_none (e ∷ es) =
      let not_below : nat_lt e.0 0 ≡ false = grind (arith, nat_tests) in
      rw not_below (filter_none es)

  -- what the table has at the next key is the next of the entries
  pub gathered : (es all next : List (ℕ × V)) (k : ℕ) (o : Option V)
      → IsTrue (map.is_sorted nat_cmp es)
      → all ≡ filter (λ e. nat_lt e.0 k) es → o ≡ map.find nat_cmp k es
      → next ≡ all ++ option_to_list (option_map (λ v. (k, v)) o)
      → next ≡ filter (λ e. nat_lt e.0 (k + 1)) es
  gathered es all next k o sorted so_far found is =
      is ∙ ap (λ l. l ++ option_to_list (option_map (λ v. (k, v)) o)) so_far
      ∙ ap (λ x. filter (λ e. nat_lt e.0 k) es ++ option_to_list (option_map (λ v. (k, v)) x)) found
      ∙ sym (filter_more es k (from_true sorted))

  -- keys below a bound stay so
  keys_fit : (stays : V → Bool) (n : ℕ) (es ps : List (ℕ × V))
      → All (λ k. k < n) (map_list (λ e. e.0) es) → All (λ e. e.0 < n) ps
      → All (λ k. k < n) (map_list (λ e. e.0) (with_entries stays es ps))
  keys_fit stays n es [] own new = own
  keys_fit stays n es (p ∷ ps) own new =
      keys_fit stays n (with_entry stays es p) ps
      (elim (stays p.1)
      as (λ b. All (λ k. k < n)
      (map_list (λ e. e.0) (cond b (map.put nat_cmp p.0 p.1 es) (without nat_cmp p.0 es)))) [
        | true ↦ keys-put (λ k. k < n) p.0 p.1 es own (All-head (λ (x : ℕ × V). x.0 < n) p ps new)
        | false ↦ keys-without (λ k. k < n) p.0 es own
      ]) (All-tail (λ (x : ℕ × V). x.0 < n) p ps new)

  pub with_entries-fit : (stays : V → Bool) (n : ℕ) (es ps : List (ℕ × V))
      → All (λ e. e.0 < n) es → All (λ e. e.0 < n) ps
      → All (λ e. e.0 < n) (with_entries stays es ps)
  with_entries-fit stays n es ps own new =
      entries_from_keys (λ k. k < n) (with_entries stays es ps)
      (keys_fit stays n es ps (All-map (λ k. k < n) (λ e. e.0) es own) new)

-- what is read from a list is one of it
pub read_of : {X : Type 0} (P : X → Type 0) (xs : List X) (i : ℕ) (x : X) → All P xs → i < length xs
    → x ≡ get_or xs i x → P x
read_of P xs i x all lt is = subst P (sym is) (all i x lt)
