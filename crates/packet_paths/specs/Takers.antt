-- Who takes the packets of a path first.
use Rattle.std.specs.Prelude.{ℕ, Bool, true, false, ◌||◌, not, List, bytes_eq, nat_lt}
use Rattle.std.specs.Prelude.{◌==◌, codes, slice_index, unwrap_or}
use Rattle.std.specs.Prelude.{Option, Some, None, if◌then◌else◌}
use Rattle.std.specs.Option.{is_some}
use Rattle.arrayvec.specs.declared.array_string.ArrayString.{ArrayString}
use Rattle.network_tables.specs.declared.route.Route.{Route}
use Rattle.network_tables.specs.Neighbors.{silence_toward}
use Rattle.packet_paths.specs.declared.path.Path.{Path}

-- it is asked for where it is not known, or does not answer
abbrev pub asks_taker : Path → Bool
asks_taker path = not (is_some path.neighbor) || nat_lt 0 path.silence

-- two are the same machine, or this one both times
abbrev pub same_taker : Option (List ℕ) → Option (List ℕ) → Bool
same_taker None None = true
same_taker None (Some b) = false
same_taker (Some a) None = false
same_taker (Some a) (Some b) = bytes_eq a b

-- another one counts as silent as the one before it, until it answers
abbrev pub with_taker : Path → Option (List ℕ) → Path
with_taker path taker = record path {
  neighbor = taker;
  silence =
      if same_taker path.neighbor taker then path.silence else silence_toward taker path.silence;
}

-- this machine takes packets itself that go to the address that they come from, or come from its
-- own loop
abbrev pub is_taken_here : List ℕ → List ℕ → Bool
is_taken_here host address = bytes_eq address host || (slice_index address 0 == 127)

-- else the gateway of the route takes them first, or the host itself where there is none
abbrev pub first_taker : List ℕ → Option Route → Option (List ℕ)
first_taker host None = None
first_taker host (Some route) = Some (unwrap_or route.gateway host)

-- the card that packets come from: that of their address, where it is known; else the one that the
-- route leads by; else nobody knows
abbrev pub card_from : Option (ArrayString 15) → Option Route → List ℕ
card_from (Some card) route = card.bytes
card_from None (Some route) = route.card.bytes
card_from None None = codes "?"
