-- What is kept of a universe while offers go to another one.
use Rattle.std.proofs.Common.{◌≡◌, ℕ, Option, ap, ◌∙◌}
use Rattle.std.specs.Option.{option_map_or}

pub still_none : {L : Type 0} (kept : L → ℕ) (now before : Option L) → now ≡ before
    → option_map_or kept before 0 ≡ 0 → option_map_or kept now 0 ≡ 0
still_none kept now before same none = ap (λ o. option_map_or kept o 0) same ∙ none
