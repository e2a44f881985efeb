-- Where a key is in entries sorted by their keys.
-- Of use inside the crate: what its public calls answer is said without these.
use Rattle.std.specs.Prelude.{◌≡◌, ℕ, ◌<◌, ◌≤◌, List, length, slice_index_or, filter, not}
use Rattle.std.specs.Ordering.{eq_by_cmp}
use Rattle.std.specs.declared.cmp.Ordering.{Ordering}
use Rattle.std.specs.declared.cmp.Ordering.TheVariants.{Less, Equal, Greater}

-- the entry at place i has the key, and those before it smaller ones
pub record IsAt {K V : Type 0} (R : K → K → Ordering) (es : List (K × V)) (key : K) (i : ℕ)
    : Type 0 where
  pub in_range : i < length es
  pub smaller_before : (j : ℕ) (e : K × V) → j < i → R (slice_index_or es j e).0 key ≡ Less
  pub has_key : (e : K × V) → R (slice_index_or es i e).0 key ≡ Equal

-- the key would go at place i: smaller keys before it, and greater keys from it on
pub record IsGap {K V : Type 0} (R : K → K → Ordering) (es : List (K × V)) (key : K) (i : ℕ)
    : Type 0 where
  pub in_range : i ≤ length es
  pub smaller_before : (j : ℕ) (e : K × V) → j < i → R (slice_index_or es j e).0 key ≡ Less
  pub greater_after : (j : ℕ) (e : K × V) → i ≤ j → j < length es
      → R (slice_index_or es j e).0 key ≡ Greater

-- the entries but for the key
abbrev pub without : {K V : Type 0} → (K → K → Ordering) → K → List (K × V) → List (K × V)
without R key = filter (λ e. not (eq_by_cmp R key e.0))
