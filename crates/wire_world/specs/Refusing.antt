-- Why nothing is rehearsed: the first reason that applies.
use Rattle.std.specs.Prelude.{◌≡◌, ℕ, ◌==◌, Bool, not, ◌&&◌, List, [], ◌∷◌, length, nat_lt, nat_le}
use Rattle.std.specs.Prelude.{find, slice_get, Option, Some, None, Result, Err, IfErr, true, false}
use Rattle.std.specs.List.{list_all, list_any}
use Rattle.std.specs.Option.{option_map_or}
use Rattle.show_core.specs.Tables.{Tables}
use Rattle.patch_core.specs.Frame.{is_base}
use Rattle.wire_world.specs.declared.happening.Happening.{Happening}
use Rattle.wire_world.specs.declared.happening.Occurrence.{Occurrence}
use Rattle.wire_world.specs.declared.happening.Occurrence.TheVariants.{Stray}
use Rattle.rehearsal_faults.specs.declared.fault.Fault.{Fault}
use Rattle.rehearsal_faults.specs.declared.fault.Fault.TheVariants.{Consoles, Receivers, NoShow}
use Rattle.rehearsal_faults.specs.declared.fault.Fault.TheVariants.{Universe, Memory}
use Rattle.wire_world.specs.declared.setup.Setup.{Setup}

-- one to four consoles
abbrev pub are_consoles : ℕ → Bool
are_consoles count = nat_le 1 count && nat_le count 4

-- a universe number, from 1 to 63999, that is none of the others
abbrev pub is_new_at : ℕ → List ℕ → Bool
is_new_at universe others = (nat_le 1 universe && nat_le universe 63999)
    && not (list_any (λ other. other == universe) others)

-- universe numbers, each once
abbrev pub are_universes : List ℕ → Bool
are_universes [] = true
are_universes (universe ∷ others) = is_new_at universe others && are_universes others

-- at most eight receivers, each of a universe of its own
abbrev pub are_receivers : List ℕ → Bool
are_receivers universes = nat_le (length universes) 8 && are_universes universes

-- a console's show is there
abbrev pub has_show : List Tables → Setup → Bool
has_show shows setup = nat_lt setup.show (length shows)

-- the universes of a console's show have numbers
abbrev pub has_base : List Tables → Setup → Bool
has_base shows setup =
    option_map_or (λ show. is_base show.patch setup.base) (slice_get shows setup.show) false

-- what is wrong with a setup, fault by fault
abbrev pub fault_applies : List Tables → List Setup → List ℕ → Fault → Bool
fault_applies shows setups universes Consoles = not (are_consoles (length setups))
fault_applies shows setups universes Receivers = not (are_receivers universes)
fault_applies shows setups universes NoShow = not (list_all (has_show shows) setups)
fault_applies shows setups universes Universe = not (list_all (has_base shows) setups)
fault_applies shows setups universes Memory = false

-- the first that applies, in their order
abbrev pub setup_fault : List Tables → List Setup → List ℕ → Option Fault
setup_fault shows setups universes =
    find (fault_applies shows setups universes) (Consoles ∷ Receivers ∷ NoShow ∷ Universe ∷ [])

-- the setup is refused for its first fault; where it has none, there may be no memory
abbrev pub AnswersSetup : {X : Type 0} → Option Fault → Result X Fault → Type 0
AnswersSetup (Some fault) result = result ≡ Err fault
AnswersSetup None result = IfErr result (λ fault. fault ≡ Memory)

-- the bytes of a stray lie within all strays
abbrev pub stray_fits : ℕ → Occurrence → Bool
stray_fits size (Stray receiver from to) = nat_le from to && nat_le to size
stray_fits size _ = true

-- so for each of the events
abbrev pub are_within : ℕ → List Happening → Bool
are_within size events = list_all (λ event. stray_fits size event.what) events
