-- A show of an old desk has dimmers of eight universes alone.
use Rattle.cueplayer.proofs.Terms.{◌≡◌, ℕ, ◌+◌, ◌<◌, ◌≤◌, true, false, refl, ap, sym, ◌∙◌, arith}
use Rattle.cueplayer.proofs.Terms.{List, length, get_or, Option, Some, None, is_some, IfSome}
use Rattle.cueplayer.proofs.Terms.{filter, range_with_len, nat_cmp, eq_by_cmp, nat_tests}
use Rattle.cueplayer.proofs.Terms.{get_or-map, length-map, list_any_at, list_any_none, frame}
use Rattle.cueplayer.proofs.Terms.{universe_numbers, same_key, has_dimmer_in, ordinal_of}
use Rattle.cueplayer.proofs.Terms.{PatchMap, Tables, desk_limits, Dimmer, text_fault, IsShowOf}
use Rattle.cueplayer.proofs.Terms.{statements_of, reads_alike, same_show, MeanAlike, old_limits}
use Rattle.std.proofs.Common.{nat_eq}
use Rattle.std.specs.Prelude.{map}
use Rattle.std.specs.FinMap as maps

-- what holds of an answer holds where there is one
there : {X : Type 0} (o : Option X) (P : X → Type 0) (n : ℕ)
    → ((x : X) → P x → n ≤ 4096) → IfSome o P → is_some o ≡ true → n ≤ 4096
there (Some x) P n low p is = low x p
there None P n low p is = cc

module _ (patch : PatchMap)
    (fits : (d : ℕ) → IfSome (maps.get patch d) (λ p. (d ≤ 4096) × (p.0 ≤ 2048))) where
  -- each dimmer is one of the first 4,096
  low : (i : ℕ) (e : ℕ × (ℕ × ℕ)) → i < length (maps.entries patch)
      → (get_or (maps.entries patch) i e).0 ≤ 4096
  low i e within =
      let d = (get_or (maps.entries patch) i e).0 in
      let key : get_or (maps.keys patch) i d ≡ d =
      get_or-map (λ (e : ℕ × (ℕ × ℕ)). e.0) (maps.entries patch) i e d within in
      let here : maps.contains_key patch d ≡ true = maps.contains_key-keys patch d
      ∙ list_any_at (eq_by_cmp nat_cmp d) (maps.keys patch) i d
      (omega (arith, within, length-map (maps.entries patch) (λ (e : ℕ × (ℕ × ℕ)). e.0)))
      (same_key d _ (sym key)) in
      there (maps.get patch d) (λ p. (d ≤ 4096) × (p.0 ≤ 2048)) d (λ p is. is.0) (fits d) here

  high : (d k : ℕ) → d ≤ 4096 → 8 ≤ k → nat_eq (ordinal_of d) k ≡ false
  high d k le ge = grind (arith, nat_tests)

  none_in : (k : ℕ) → 8 ≤ k → has_dimmer_in patch k ≡ false
  none_in k ge = list_any_none (λ (e : ℕ × (ℕ × ℕ)). nat_eq (ordinal_of e.0) k)
      (maps.entries patch) (λ i e within. high _ k (low i e within) ge)

  eight : filter (has_dimmer_in patch) (range_with_len 0 16)
      ≡ filter (has_dimmer_in patch) (range_with_len 0 8)
  eight = rw (
    none_in 8 (omega arith),
    none_in 9 (omega arith),
    none_in 10 (omega arith),
    none_in 11 (omega arith),
    none_in 12 (omega arith),
    none_in 13 (omega arith),
    none_in 14 (omega arith),
    none_in 15 (omega arith),
  ) refl

  universes : (base : ℕ) → universe_numbers patch base
      ≡ map (λ ordinal. base + ordinal) (filter (has_dimmer_in patch) (range_with_len 0 8))
  unfolding universe_numbers
  universes base = ap (map (λ ordinal. base + ordinal)) eight

pub old_shows : (text : List ℕ) (old new : Tables) → text_fault old_limits text ≡ None
    → IsShowOf (statements_of old_limits text) old → IsShowOf (statements_of desk_limits text) new
    → MeanAlike old new
old_shows text old new faultless is_old is_new =
    let alike = reads_alike old_limits desk_limits (omega arith) (omega arith) text faultless in
    let same : new ≡ old = same_show (statements_of desk_limits text) new old is_new
    (rw alike.statements is_old) in
    record {
      frames = λ history moment ordinal. ap (λ s. frame s history moment ordinal) same;
      universes = λ base. ap (λ (s : Tables). universe_numbers s.patch base) same
          ∙ universes old.patch (λ d. alike.fits old (rw alike.statements is_old) (Dimmer d)) base;
    }
