-- The cues one after the other: from each the least one above it, which is found where it lies.
use Rattle.cmd_explain.proofs.Terms.{◌≡◌, ℕ, ◌+◌, ◌<◌, ◌≤◌, T, IsTrue, List, [], ◌∷◌, ◌++◌, take}
use Rattle.cmd_explain.proofs.Terms.{drop, length, length-append, Option, Some, None, refl, ap, sym}
use Rattle.cmd_explain.proofs.Terms.{subst, ◌∙◌, arith, get_or, All, find, nat_lt, nat_cmp}
use Rattle.cmd_explain.proofs.Terms.{unsigned_tied, below_all, nat_tests, append-nil, drop_more}
use Rattle.cmd_explain.proofs.Terms.{get_or-map, take-append-drop, take_more, CueData}
use Rattle.cmd_explain.proofs.Terms.{is_cue_number, cue_above, CueMap, below_of, and_left}
use Rattle.cmd_explain.proofs.Terms.{and_right, less}
use Rattle.std.specs.Prelude.{map}
use Rattle.std.specs.FinMap as maps

-- the key of the first entry
abbrev pub first_key : {V : Type 0} → List (ℕ × V) → Option ℕ
first_key [] = None
first_key (e ∷ es) = Some e.0

module _ {V : Type 0} where
  -- keys that are all above n: the first is the least of them
  above : (n : ℕ) (es : List (ℕ × V)) → T (below_all nat_cmp n es)
      → find (λ k. nat_lt n k) (map (λ e. e.0) es) ≡ first_key es
  above n [] h = refl
  above n (e ∷ es) h =
      let lt : n < e.0 = below_of n e.0 (less _ (and_left _ _ h)) in
      grind (arith, nat_tests)

  -- a key that is below all is below one of them
  below_one : (n : ℕ) (bs : List (ℕ × V)) (e : ℕ × V) (es : List (ℕ × V))
      → T (below_all nat_cmp n (bs ++ e ∷ es)) → n < e.0
  below_one n [] e es h = below_of n e.0 (less _ (and_left _ _ h))
  below_one n (b ∷ bs) e es h = below_one n bs e es (and_right _ _ h)

  -- the least key above one of some sorted entries is that of the next
  pub next_key : (bs : List (ℕ × V)) (e : ℕ × V) (es : List (ℕ × V))
      → T (maps.is_sorted nat_cmp (bs ++ e ∷ es))
      → find (λ k. nat_lt e.0 k) (map (λ e. e.0) (bs ++ e ∷ es)) ≡ first_key es
  next_key [] e es h =
      let rest : find (λ k. nat_lt e.0 k) (map (λ x. x.0) es) ≡ first_key es =
      above e.0 es (and_left _ _ h) in
      grind (arith, nat_tests, rest)
  next_key (b ∷ bs) e es h =
      let lt : b.0 < e.0 = below_one b.0 bs e es (and_left _ _ h) in
      let rest : find (λ k. nat_lt e.0 k) (map (λ x. x.0) (bs ++ e ∷ es)) ≡ first_key es =
      next_key bs e es (and_right _ _ h) in
      grind (arith, nat_tests, rest)

  -- one of them is found at its key
  pub entry_here : (bs : List (ℕ × V)) (e : ℕ × V) (es : List (ℕ × V))
      → T (maps.is_sorted nat_cmp (bs ++ e ∷ es))
      → maps.find nat_cmp e.0 (bs ++ e ∷ es) ≡ Some e.1
  entry_here [] e es h = grind (arith, nat_tests, unsigned_tied e.0 e.0)
  entry_here (b ∷ bs) e es h =
      let lt : b.0 < e.0 = below_one b.0 bs e es (and_left _ _ h) in
      let rest : maps.find nat_cmp e.0 (bs ++ e ∷ es) ≡ Some e.1 =
      entry_here bs e es (and_right _ _ h) in
      grind (arith, nat_tests, unsigned_tied e.0 b.0, rest)

  -- the first of keys that are cue numbers is the least above 0
  pub first_above_0 : (es : List (ℕ × V))
      → All (λ n. IsTrue (is_cue_number n)) (map (λ e. e.0) es)
      → find (λ k. nat_lt 0 k) (map (λ e. e.0) es) ≡ first_key es
  first_above_0 [] h = refl
  first_above_0 (e ∷ es) h =
      let here : IsTrue (is_cue_number e.0) = h 0 0 (omega arith) in
      grind (arith, nat_tests, here)

-- the cue of each of the numbers
pub entry_at : (cues : CueMap) (es : List (ℕ × CueData)) (i n : ℕ) → maps.entries cues ≡ es
    → i < length es → n ≡ get_or (map (λ e. e.0) es) i n
    → (cue : CueData) × record {
      found : maps.get cues n ≡ Some cue;
      more : take (i + 1) es ≡ take i es ++ (n, cue) ∷ [];
    }
entry_at cues [] i n all within is = absurd (omega (arith, within))
entry_at cues (d ∷ ds) i n all within is =
    let es = d ∷ ds in
    let e = get_or es i d in
    let key : n ≡ e.0 = is ∙ get_or-map (λ x. x.0) es i d n within in
    let parts : maps.entries cues ≡ take i es ++ e ∷ drop (i + 1) es =
    all ∙ sym (take-append-drop i es) ∙ ap (λ l. take i es ++ l) (drop_more es i d within) in
    let sorted : T (maps.is_sorted nat_cmp (take i es ++ e ∷ drop (i + 1) es)) =
    subst (λ l. T (maps.is_sorted nat_cmp l)) parts (maps.entries_sorted cues) in (
      e.1,
      record {
        found =
            ap (maps.get cues) key ∙ maps.get-entries cues e.0 ∙ ap (maps.find nat_cmp e.0) parts
            ∙ entry_here (take i es) e (drop (i + 1) es) sorted;
        more = take_more es i d within ∙ ap (λ k. take i es ++ (k, e.1) ∷ []) (sym key);
      },
    )

-- where a cue is next, it is the first of the entries that are left, and the least above it is that
-- of the next of these
pub next_cue : (cues : CueMap) (done left : List (ℕ × CueData)) (n : ℕ)
    → maps.entries cues ≡ done ++ left → first_key left ≡ Some n
    → (cue : CueData) × (rest : List (ℕ × CueData)) × record {
      left_is : left ≡ (n, cue) ∷ rest;
      found : maps.get cues n ≡ Some cue;
      next : cue_above cues n ≡ first_key rest;
    }
next_cue cues done [] n all is = cc
next_cue cues done (e ∷ rest) n all is =
    let key : e.0 ≡ n = cc in
    let sorted : T (maps.is_sorted nat_cmp (done ++ e ∷ rest)) =
    subst (λ es. T (maps.is_sorted nat_cmp es)) all (maps.entries_sorted cues) in (
      e.1,
      rest,
      record {
        left_is = ap (λ k. (k, e.1) ∷ rest) key;
        found =
            maps.get-entries cues n ∙ ap (maps.find nat_cmp n) all
            ∙ ap (λ k. maps.find nat_cmp k (done ++ e ∷ rest)) (sym key)
            ∙ entry_here done e rest sorted;
        next =
            ap (λ es. find (λ k. nat_lt n k) (map (λ x. x.0) es)) all
            ∙ ap (λ m. find (λ k. nat_lt m k) (map (λ x. x.0) (done ++ e ∷ rest))) (sym key)
            ∙ next_key done e rest sorted;
      },
    )

-- where none is next, all have their turn behind them
pub none_next : (cues : CueMap) (done left : List (ℕ × CueData))
    → maps.entries cues ≡ done ++ left → first_key left ≡ None → done ≡ maps.entries cues
none_next cues done [] all none = sym (all ∙ append-nil done)
none_next cues done (e ∷ left) all none = cc

-- so they have where they are as many as there are
pub all_done : (cues : CueMap) (done left : List (ℕ × CueData))
    → maps.entries cues ≡ done ++ left → maps.len cues ≤ length done → done ≡ maps.entries cues
all_done cues done [] all many = sym (all ∙ append-nil done)
all_done cues done (e ∷ left) all many =
    let fewer : length (maps.entries cues) ≡ length done + length (e ∷ left) =
    ap length all ∙ length-append done (e ∷ left) in
    absurd (omega (arith, maps.len-entries cues))
