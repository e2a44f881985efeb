-- Many entries that are put into sorted ones.
-- Of use inside the crate: what its public calls answer is said without these.
use Rattle.std.specs.Prelude.{◌≡◌, ℕ, ◌<◌, Bool, Option, None, List, [], ◌∷◌, if◌then◌else◌}
use Rattle.std.specs.Prelude.{length, slice_index_or}
use Rattle.std.specs.Ordering.{nat_cmp}
use Rattle.std.specs.FinMap as map
use Rattle.show_core.specs.Place.{without}

-- with the value at the key, or without the key where such a value does not stay
abbrev pub with_entry : {V : Type 0} → (V → Bool) → List (ℕ × V) → ℕ × V → List (ℕ × V)
with_entry stays es p =
    if stays p.1 then map.put nat_cmp p.0 p.1 es else without nat_cmp p.0 es

-- with each of them, one after the other
abbrev pub with_entries : {V : Type 0} → (V → Bool) → List (ℕ × V) → List (ℕ × V) → List (ℕ × V)
with_entries stays es [] = es
with_entries stays es (p ∷ ps) = with_entries stays (with_entry stays es p) ps

-- the map of such entries, with each of them
abbrev pub with_all : {V : Type 0} → (V → Bool) → map.FinMap nat_cmp V → List (ℕ × V)
    → map.FinMap nat_cmp V
with_all stays m [] = m
with_all stays m (p ∷ ps) =
    with_all stays (if stays p.1 then map.insert m p.0 p.1 else map.remove m p.0) ps

-- a table with a place for each key has there what the entries have
abbrev pub IsTableOf : {V : Type 0} → List (Option V) → List (ℕ × V) → Type 0
IsTableOf table es =
    (k : ℕ) → k < length table → slice_index_or table k None ≡ map.find nat_cmp k es
