-- How a card is.
use Rattle.std.specs.Prelude.{ℕ, Bool, false, ◌||◌, not, List, Option, Some, None, codes, bytes_eq}
use Rattle.std.specs.Prelude.{if◌then◌else◌}
use Rattle.network_tables.specs.Fields.{flags_of}
use Rattle.network_tables.specs.Routes.{is_set}
use Rattle.network_tables.specs.declared.card.CardState.{CardState}
use Rattle.network_tables.specs.declared.card.CardState.TheVariants.{Down, NoLink, Up}

-- the flags say that it is down: that of worth 1 is not set
abbrev pub is_down_by : Option ℕ → Bool
is_down_by (Some flags) = not (is_set 1 flags)
is_down_by None = false

abbrev pub is_down : List ℕ → Bool
is_down flags = is_down_by (flags_of flags)

-- the states of a card that is up and has no link
abbrev pub is_without_link : List ℕ → Bool
is_without_link state = bytes_eq state (codes "down") || (bytes_eq state (codes "lowerlayerdown")
    || (bytes_eq state (codes "dormant") || bytes_eq state (codes "notpresent")))

-- how a card is, by its files `flags` and `operstate`; what they do not tell is well
abbrev pub state_by_files : List ℕ → List ℕ → CardState
state_by_files flags operstate =
    if is_down flags then Down else if is_without_link operstate then NoLink else Up
