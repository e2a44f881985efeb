-- The greatest of the records of a table, record by record.
use Rattle.master_core.proofs.Terms.{◌≡◌, ℕ, ◌+◌, ◌*◌, ◌<◌, List, [], ◌∷◌, ◌++◌, length, get_or, take}
use Rattle.master_core.proofs.Terms.{refl, sym, ap, ◌∙◌, arith, All, map, max, entries, map-append}
use Rattle.master_core.proofs.Terms.{take_more, All-head, All-tail, All-weaker, level_in, LevelMap}
use Rattle.master_core.proofs.Terms.{MasterMap, greatest, greatest_in}

-- one number more
greatest_more : (xs : List ℕ) (y : ℕ) → greatest (xs ++ y ∷ []) ≡ max (greatest xs) y
greatest_more [] y = omega arith
greatest_more (x ∷ xs) y = omega (arith, greatest_more xs y)

module _ {A : Type 0} (level : A → ℕ) (xs : List A) (i : ℕ) (x : A) (lt : i < length xs)
    (is : x ≡ get_or xs i x) where
  -- one record more
  pub greatest_next : greatest (map level (take (i + 1) xs))
      ≡ max (greatest (map level (take i xs))) (level x)
  greatest_next =
      ap (λ l. greatest (map level l)) (take_more xs i x lt)
      ∙ ap greatest (map-append level (take i xs) (get_or xs i x ∷ []))
      ∙ greatest_more (map level (take i xs)) (level (get_or xs i x))
      ∙ ap (λ y. max (greatest (map level (take i xs))) (level y)) (sym is)

-- masters that agree at the records make the same
greatest_same : {V : Type 0} (byte : V → ℕ) (master other : ℕ → ℕ) (es : List (ℕ × V))
    → All (λ e. master e.0 ≡ other e.0) es
    → greatest (map (λ e. byte e.1 * master e.0) es) ≡ greatest (map (λ e. byte e.1 * other e.0) es)
greatest_same byte master other [] h = refl
greatest_same byte master other (e ∷ es) h =
    let first = All-head (λ e. master e.0 ≡ other e.0) e es h in
    let rest = All-tail (λ e. master e.0 ≡ other e.0) e es h in
    rw (first, greatest_same byte master other es rest) refl

-- the records of a table, whose numbers are of a kind, with bytes that are the masters of that kind
module _ (P : ℕ → Type 0) (records : MasterMap) (es : List (ℕ × LevelMap))
    (are : es ≡ entries records) (numbers : All (λ e. P e.0) es) where
  pub highest_is : (bytes : List ℕ) (master : ℕ → ℕ) (channel : ℕ)
      → ((n : ℕ) → P n → get_or bytes n 0 ≡ master n)
      → greatest (map (λ e. level_in e.1 channel * get_or bytes e.0 0) es)
      ≡ greatest_in records master channel
  highest_is bytes master channel agrees =
      greatest_same (λ levels. level_in levels channel) (λ n. get_or bytes n 0) master es
      (All-weaker (λ e. P e.0) (λ e. get_or bytes e.0 0 ≡ master e.0) (λ e h. agrees e.0 h) es
      numbers)
      ∙ ap (λ l. greatest (map (λ e. level_in e.1 channel * master e.0) l)) are
