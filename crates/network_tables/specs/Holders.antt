-- Whose card an address of this machine is. The system's files do not name it: it is found by the
-- networks at which cards are.
use Rattle.std.specs.Prelude.{◌≡◌, ℕ, ◌+◌, ◌%◌, ◌^◌, ◌<◌, Bool, true, false, ◌&&◌, ◌||◌, not}
use Rattle.std.specs.Prelude.{List, [], ◌∷◌, ◌==◌, filter, bytes_eq, nat_le, slice_index}
use Rattle.std.specs.Prelude.{Option, Some, None, if◌then◌else◌}
use Rattle.std.specs.Int.{to_be_bytes, w32}
use Rattle.std.specs.List.{list_all, list_any}
use Rattle.network_tables.specs.Routes.{RouteEntry, leads_to, route_seen, width_of}
use Rattle.network_tables.specs.Tables.{has_address, of_address}
use Rattle.network_tables.specs.declared.holder.Holder.{Holder}
use Rattle.network_tables.specs.declared.holder.Holder.TheVariants as holder
use Rattle.network_tables.specs.declared.route.Route.{Route}
use Rattle.network_tables.specs.declared.table.Card.{Card}
use Rattle.arrayvec.specs.declared.array_string.ArrayString.{ArrayString}

-- there is no gateway
abbrev pub is_direct : Option (List ℕ) → Bool
is_direct None = true
is_direct (Some gateway) = false

-- the route leads to a network at which its card is: without a gateway, and not to everywhere
abbrev pub is_at_card : RouteEntry → Bool
is_at_card route = is_direct route.gateway && not (route.mask == 0)

-- the network holds the address, and of those that do none looks at more bits
abbrev pub is_widest : List ℕ → List Route → Route → Bool
is_widest address networks network = leads_to address (route_seen network)
    && list_all (λ other. not (leads_to address (route_seen other))
    || nat_le (width_of (route_seen other)) (width_of (route_seen network))) networks

-- the networks of an address
abbrev pub networks_of : List ℕ → List Route → List Route
networks_of address networks = filter (is_widest address networks) networks

-- the card at the only network; of two the first or the other; of more the first, or not known
abbrev pub holder_among : List Route → Holder
holder_among [] = holder.Unknown
holder_among (only ∷ []) = holder.Card only.card
holder_among (first ∷ other ∷ []) = holder.OneOf first.network first.card (Some other.card)
holder_among (first ∷ other ∷ third ∷ more) = holder.OneOf first.network first.card None

-- the card of a row, where it is known
abbrev pub row_card : Option Card → Option (ArrayString 15)
row_card None = None
row_card (Some card) = card.name

-- of several cards at one network the one that an address is of: the one by which the system sends
-- from it to a host there; where it tells that of none of them, the first, if it sends from the
-- address where no card is named, else the other
abbrev pub card_or : Option (ArrayString 15) → Option (ArrayString 15) → Option (ArrayString 15)
card_or (Some card) others = Some card
card_or None others = others

abbrev pub card_among : List ℕ → List Card → Option (List ℕ) → ArrayString 15
    → Option (ArrayString 15) → Option (ArrayString 15)
card_among address asked sends_from first other = card_or (row_card (of_address address asked))
    (if has_address address sends_from then Some first else other)

-- 127.0.0.0/8 is the machine's own loop (RFC 1122, 3.2.1.3)
abbrev pub holder_of : List ℕ → List Route → Holder
holder_of address networks = if slice_index address 0 == 127 then holder.Loop
    else holder_among (networks_of address networks)

-- the host at this place of a network, from 0: the first stands behind the network's own address
abbrev pub host_at : ℕ → ℕ → List ℕ
host_at network place = to_be_bytes w32 ((network + (place + 1)) % 2 ^ 32)

-- the machine has the address
abbrev pub is_among : List (List ℕ) → List ℕ → Bool
is_among own address = list_any (λ known. bytes_eq known address) own

-- the host is the first of the network's first 65 that is not this machine
pub record IsHostBeside (network : ℕ) (own : List (List ℕ)) (host : List ℕ) : Type 0 where
  pub place : ℕ
  pub within : place < 65
  pub at : host ≡ host_at network place
  pub foreign : is_among own host ≡ false
  pub first : (k : ℕ) → k < place → is_among own (host_at network k) ≡ true

-- each of them is this machine
abbrev pub HasNoHostBeside : ℕ → List (List ℕ) → Type 0
HasNoHostBeside network own = (k : ℕ) → k < 65 → is_among own (host_at network k) ≡ true
