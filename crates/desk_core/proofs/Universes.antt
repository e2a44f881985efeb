-- The numbers of the universes of a patch: they rise, and are in their range.
use Rattle.desk_core.proofs.Terms.{◌≡◌, ℕ, ◌+◌, ◌-◌, ◌<◌, ◌≤◌, true, IsTrue, List, length, get_or, sym}
use Rattle.desk_core.proofs.Terms.{subst, ap, arith, All, Contains, map, Result, Ok, Err, IsOk, OnOk}
use Rattle.desk_core.proofs.Terms.{range_with_len, IsStrictlyIncreasing, false≢true, nat_tests}
use Rattle.desk_core.proofs.Terms.{get_or-map, length-map, All-map, All-filter, All-contains}
use Rattle.desk_core.proofs.Terms.{length-range_with_len, get_or-range_with_len}
use Rattle.desk_core.proofs.Terms.{IsStrictlyIncreasing-filter, AllPass-from_list_all, has_dimmer_in}
use Rattle.desk_core.proofs.Terms.{patch_ordinals, PatchMap, and_right, from_true, to_true, is_universe}
use Rattle.desk_core.proofs.Terms.{is_base, universe_numbers}

-- each ordinal has a number
pub ordinals_in : (patch : PatchMap) (base : ℕ) → is_base patch base ≡ true
    → All (λ ordinal. IsTrue (is_universe (base + ordinal))) (patch_ordinals patch)
unfolding is_base
ordinals_in patch base is = AllPass-from_list_all (λ ordinal. is_universe (base + ordinal))
    (patch_ordinals patch) (to_true (and_right _ _ (from_true is)))

pub numbers_in : (patch : PatchMap) (base : ℕ) → is_base patch base ≡ true
    → All (λ number. IsTrue (is_universe number)) (universe_numbers patch base)
unfolding universe_numbers
numbers_in patch base is = All-map (λ number. IsTrue (is_universe number))
    (λ ordinal. base + ordinal) (patch_ordinals patch) (ordinals_in patch base is)

-- an ordinal is below 16
pub ordinals_few : (patch : PatchMap) → All (λ ordinal. ordinal < 16) (patch_ordinals patch)
ordinals_few patch =
    All-filter (has_dimmer_in patch) (λ ordinal. ordinal < 16) (range_with_len 0 16)
    (λ k d lt. let few : k < 16 = omega (arith, length-range_with_len 0 16) in
    omega (arith, get_or-range_with_len 0 16 k d few))

-- a number is the base and an ordinal below 16
pub number_of : (patch : PatchMap) (base number : ℕ) → Contains (universe_numbers patch base) number
    → (base ≤ number) × (number - base < 16)
unfolding universe_numbers
number_of patch base number contains =
    All-contains (λ n. (base ≤ n) × (n - base < 16)) (universe_numbers patch base) number
    (All-map (λ n. (base ≤ n) × (n - base < 16)) (λ ordinal. base + ordinal) (patch_ordinals patch)
    (λ k d lt. let few : get_or (patch_ordinals patch) k d < 16 = ordinals_few patch k d lt in
    (omega arith, omega arith))) contains

-- what a call says of its success, where it succeeds
pub when_ok : {T E P : Type 0} (result : Result T E) → IsOk result → OnOk result P → P
when_ok (Ok value) is says = says
when_ok (Err error) is says = absurd (false≢true is)

rising : (patch : PatchMap) → IsStrictlyIncreasing (patch_ordinals patch)
rising patch =
    IsStrictlyIncreasing-filter (has_dimmer_in patch) (range_with_len 0 16)
    (λ k lt. let few : k + 1 < 16 = omega (arith, length-range_with_len 0 16) in
    omega (
      arith,
      get_or-range_with_len 0 16 k 0 (omega arith),
      get_or-range_with_len 0 16 (k + 1) 0 few,
    ))

pub numbers_rise : (patch : PatchMap) (base : ℕ)
    → IsStrictlyIncreasing (universe_numbers patch base)
unfolding universe_numbers
numbers_rise patch base = λ k lt.
    let f : ℕ → ℕ = λ (ordinal : ℕ). base + ordinal in
    let within : k + 1 < length (patch_ordinals patch) =
    omega (arith, length-map (patch_ordinals patch) f) in
    let before : k < length (patch_ordinals patch) = omega arith in
    omega (
      arith,
      rising patch k within,
      get_or-map f (patch_ordinals patch) k 0 0 before,
      get_or-map f (patch_ordinals patch) (k + 1) 0 0 within,
    )

-- the numbers, from the ordinals
pub numbers_are : (patch : PatchMap) (base : ℕ) (ordinals : List ℕ) → ordinals
    ≡ patch_ordinals patch
    → map (λ ordinal. base + ordinal) ordinals ≡ universe_numbers patch base
unfolding universe_numbers
numbers_are patch base ordinals are = ap (map (λ (ordinal : ℕ). base + ordinal)) are

below_top : (number : ℕ) → IsTrue (is_universe number) → number < 65536
below_top number is = grind (arith, nat_tests)

pub number_fits : (patch : PatchMap) (base : ℕ) → is_base patch base ≡ true → (ordinals : List ℕ)
    → ordinals ≡ patch_ordinals patch → (k : ℕ) → k < length ordinals
    → base + get_or ordinals k 0 < 65536
number_fits patch base is ordinals are k lt =
    let all : All (λ ordinal. IsTrue (is_universe (base + ordinal))) ordinals =
    subst (All (λ ordinal. IsTrue (is_universe (base + ordinal)))) (sym are)
    (ordinals_in patch base is) in
    below_top _ (all k 0 lt)
