-- The bytes of each stray of a script are among those of all strays.
use Rattle.std.proofs.Common.{◌≡◌, ℕ, true, ◌&&◌, List, [], ◌∷◌, refl, ap, ◌∙◌, arith}
use Rattle.std.specs.Prelude.{All}
use Rattle.std.specs.List.{AllByRecursion}
use Rattle.std.proofs.lemmas.Bool.Decides.{nat_tests}
use Rattle.std.proofs.lemmas.List.Elements.{recursion_from_All}
use Rattle.cmd_rehearse.specs.Script.{IsRange, EventFits}
use Rattle.wire_world.specs.declared.happening.Happening.{Happening}
use Rattle.wire_world.specs.declared.happening.Occurrence.{Occurrence}
use Rattle.wire_world.specs.declared.happening.Occurrence.TheVariants.{Order, Tick, Deliver, Stray, Show}
use Rattle.wire_world.specs.Refusing.{are_within, stray_fits}

-- one event
within_one : (size : ℕ) (what : Occurrence) → IsRange size what → stray_fits size what ≡ true
within_one size (Stray receiver from to) range = grind (arith, nat_tests, range.0, range.1)
within_one size (Order i instruction) range = refl
within_one size (Tick i) range = refl
within_one size (Deliver r i universe k) range = refl
within_one size (Show r) range = refl

each_within : (size : ℕ) (events : List Happening) → AllByRecursion (EventFits size) events
    → are_within size events ≡ true
each_within size [] each = refl
each_within size (e ∷ es) each =
    ap (λ b. b && are_within size es) (within_one size e.what each.0) ∙ each_within size es each.1

-- all events
pub all_within : (size : ℕ) (events : List Happening) → All (EventFits size) events
    → are_within size events ≡ true
all_within size events all =
    each_within size events (recursion_from_All (EventFits size) events all)
