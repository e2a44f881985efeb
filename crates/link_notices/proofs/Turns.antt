-- Over a night each notice tells something else than the one before.
use Rattle.std.proofs.Common.{◌≡◌, ◌≢◌, ℕ, zero, suc, Bool, true, false, cond, List, [], ◌∷◌, refl}
use Rattle.std.proofs.Common.{sym, ap, subst, ◌∙◌, arith, Some, None}
use Rattle.std.proofs.lemmas.Bool.{eq-eqb, eqb-true}
use Rattle.std.proofs.lemmas.List.Elements.{All-head, All-tail}
use Rattle.std.specs.Prelude.{All, nat_eq}
use Rattle.link_notices.specs.declared.path.Trouble.{Trouble}
use Rattle.link_notices.specs.declared.path.Trouble.TheVariants as trouble
use Rattle.link_notices.specs.declared.source.SourceState.{SourceState}
use Rattle.link_notices.specs.declared.source.SourceState.TheVariants as source
use Rattle.link_notices.specs.declared.watch.PathLook.{PathLook}
use Rattle.link_notices.specs.Same.{number_of_source, number_of_trouble, same_source, same_trouble}
use Rattle.link_notices.specs.Told.{told_of_path}
use Rattle.link_notices.specs.Nights.{AreTurns, AreSourceTurns, PathsLaw, SourcesLaw, known_state}
use Rattle.link_notices.specs.Nights.{known_trouble, onto, told_path, told_source}

false_true : {b : Bool} → b ≡ false → b ≡ true → ⊥
false_true f t = grind (arith, f, t)

-- two that have one number are the same, where the number tells which one it is; and two that have
-- different ones differ
same : {X : Type 0} (number : X → ℕ) (numbered : ℕ → X) → ((a : X) → numbered (number a) ≡ a)
    → (a b : X) → nat_eq (number a) (number b) ≡ true → a ≡ b
same number numbered back a b h =
    sym (back a) ∙ ap numbered (eqb-true (number a) (number b) h) ∙ back b

is_itself : (n : ℕ) → nat_eq n n ≡ true
is_itself n = eq-eqb n n refl

differ : {X : Type 0} (number : X → ℕ) (a b : X) → nat_eq (number a) (number b) ≡ false → b ≢ a
differ number a b h e =
    false_true (subst (λ x. nat_eq (number a) (number x) ≡ false) e h) (is_itself (number a))

-- ---- ways

abbrev trouble_at : ℕ → Trouble
trouble_at zero = trouble.None
trouble_at (suc zero) = trouble.NoRouteYet
trouble_at (suc (suc zero)) = trouble.NoRoute
trouble_at (suc (suc (suc zero))) = trouble.OtherCard
trouble_at (suc (suc (suc (suc n)))) = trouble.NoAnswer

at_number : (a : Trouble) → trouble_at (number_of_trouble a) ≡ a
at_number trouble.None = refl
at_number trouble.NoRouteYet = refl
at_number trouble.NoRoute = refl
at_number trouble.OtherCard = refl
at_number trouble.NoAnswer = refl

turns : (was : Trouble) (looks : List PathLook)
    → AreTurns was (told_path was looks) (known_trouble was looks)
turns was [] = refl
turns was (look ∷ looks) =
    let is = told_of_path was look in
    let later = turns is looks in
    elim (same_trouble was is) as (λ b. same_trouble was is ≡ b → AreTurns was
    (onto (cond b None (Some (record { was = was; is = is }))) (told_path is looks))
    (known_trouble is looks)) [
      | true ↦ λ e. subst (λ t. AreTurns t (told_path is looks) (known_trouble is looks))
          (sym (same number_of_trouble trouble_at at_number was is e)) later
      | false ↦ λ e. (refl, differ number_of_trouble was is e, later)
    ] refl

quiet : (was : Trouble) (looks : List PathLook) → All (λ look. look.has_link ≡ false) looks
    → told_path was looks ≡ []
quiet was [] h = refl
quiet was (look ∷ looks) h =
    rw (All-head (λ look. look.has_link ≡ false) look looks h, is_itself (number_of_trouble was))
    (quiet was looks (All-tail (λ look. look.has_link ≡ false) look looks h))

pub paths : PathsLaw
paths = record { turns = turns; quiet = quiet }

-- ---- addresses

abbrev state_at : ℕ → SourceState
state_at zero = source.Sends
state_at (suc zero) = source.NoLink
state_at (suc (suc zero)) = source.Down
state_at (suc (suc (suc n))) = source.Lost

at_state : (a : SourceState) → state_at (number_of_source a) ≡ a
at_state source.Sends = refl
at_state source.NoLink = refl
at_state source.Down = refl
at_state source.Lost = refl

pub sources : SourcesLaw
sources was [] = refl
sources was (is ∷ looks) =
    let later = sources is looks in
    elim (same_source was is) as (λ b. same_source was is ≡ b → AreSourceTurns was
    (onto (cond b None (Some (record { was = was; is = is }))) (told_source is looks))
    (known_state is looks)) [
      | true ↦ λ e. subst (λ t. AreSourceTurns t (told_source is looks) (known_state is looks))
          (sym (same number_of_source state_at at_state was is e)) later
      | false ↦ λ e. (refl, differ number_of_source was is e, later)
    ] refl
