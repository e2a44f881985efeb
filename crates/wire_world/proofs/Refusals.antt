-- The checks of a setup.
use Rattle.std.proofs.Common.{◌≡◌, ℕ, ◌<◌, ◌≤◌, true, refl, List, [], ◌∷◌, length, get_or, arith}
use Rattle.std.proofs.Common.{Option, Some, None, Ok, nat_le, All}
use Rattle.std.proofs.lemmas.Bool.{and_parts, ltb-true}
use Rattle.std.proofs.lemmas.List.{length-map, get_or-map}
use Rattle.std.proofs.lemmas.List.Sums.{AllPass-from_list_all}
use Rattle.rehearsal_faults.specs.declared.fault.Fault.{Fault}
use Rattle.wire_world.specs.Refusing.{are_consoles, are_receivers, are_universes, is_new_at}
use Rattle.wire_world.specs.Refusing.{AnswersSetup, has_base, has_show, setup_fault, are_within}
use Rattle.wire_world.specs.Refusing.{stray_fits}
use Rattle.wire_world.specs.Stands.{StrayFits}
use Rattle.wire_world.proofs.Terms.{list_all, slice_get-get_or, All-cons, common_steps, nat_tests}
use Rattle.wire_world.proofs.Terms.{Tables, Setup, IsWorld, no_console, Happening, Occurrence, Stray}
use Rattle.wire_world.proofs.Terms.{SendersAreSources, cast, world_of}

-- a report is answered where there is no fault
pub no_fault : {X : Type 0} (o : Option Fault) (x : X) → AnswersSetup o (Ok x) → o ≡ None
no_fault None x answer = refl
no_fault (Some fault) x answer = cc

-- ---- what holds where no reason applies

numbers : (xs : List ℕ) → are_universes xs ≡ true → All (λ u. (1 ≤ u) × (u ≤ 63999)) xs
numbers [] a = λ k d l. absurd (omega (arith, l))
numbers (x ∷ xs) a =
    All-cons (λ u. (1 ≤ u) × (u ≤ 63999)) x xs (grind (arith, nat_tests), grind (arith, nat_tests))
    (numbers xs (and_parts (is_new_at x xs) (are_universes xs) a).1)

-- none of the reasons applies
pub record IsFine (shows : List Tables) (setups : List Setup) (universes : List ℕ) : Type 0 where
  pub consoles : are_consoles (length setups) ≡ true
  pub receivers : are_receivers universes ≡ true
  pub shown : list_all (has_show shows) setups ≡ true
  pub based : list_all (has_base shows) setups ≡ true

pub fine : (shows : List Tables) (setups : List Setup) (universes : List ℕ)
    → setup_fault shows setups universes ≡ None → IsFine shows setups universes
fine shows setups universes e = grind (arith, common_steps)

pub universes_there : (shows : List Tables) (setups : List Setup) (universes : List ℕ)
    → setup_fault shows setups universes ≡ None → All (λ u. (1 ≤ u) × (u ≤ 63999)) universes
universes_there shows setups universes none =
    numbers universes (and_parts (nat_le (length universes) 8) _
    (fine shows setups universes none).receivers).1

-- one to four consoles, and each is one
pub fine_world : (shows : List Tables) (setups : List Setup) (universes strays : List ℕ)
    → setup_fault shows setups universes ≡ None → SendersAreSources shows setups
    → IsWorld (world_of shows setups universes strays)
    × (length (world_of shows setups universes strays).consoles ≤ 4)
fine_world shows setups universes strays none who = (
  λ i h. let l : i < length setups = omega (arith, h, length-map setups (cast shows)) in
      let s : Setup = get_or setups i blank in
      let there : s.show < length shows =
      ltb-true _ (length shows) (AllPass-from_list_all (has_show shows) setups f.shown i blank l) in
      rw (get_or-map (cast shows) setups i blank no_console l) (record {
        source_in = who i blank l;
        base_in = rw (slice_get-get_or shows s.show no_console.show there)
            at (AllPass-from_list_all (has_base shows) setups f.based i blank l);
      }),
  grind (arith, nat_tests, f.consoles, length-map setups (cast shows)),
)
  where
    f : IsFine shows setups universes
    f = fine shows setups universes none

    blank : Setup
    blank = record { show = 0; base = 0; identity = no_console.source }

-- what a stray is within
within_one : (size : ℕ) (x : Occurrence) → stray_fits size x ≡ true → StrayFits size x
within_one size (Stray receiver from to) h = (grind (arith, nat_tests), grind (arith, nat_tests))
within_one size _ h = tt

pub all_within : (size : ℕ) (events : List Happening) → are_within size events ≡ true
    → All (λ e. StrayFits size e.what) events
all_within size events h = λ k d l. within_one size (get_or events k d).what
    (AllPass-from_list_all (λ (e : Happening). stray_fits size e.what) events h k d l)
