-- A line of the system's table of routes.
use Rattle.std.specs.Prelude.{ℕ, Bool, not, List, ◌==◌, bit_and, count_ones}
use Rattle.std.specs.Prelude.{Option, Some, None, if◌then◌else◌}
use Rattle.std.specs.Int.{from_be_bytes, to_le_bytes, w32}
use Rattle.std.specs.Char.{is_ascii_graphic}
use Rattle.arrayvec.specs.declared.array_string.ArrayString.{ArrayString}
use Rattle.ascii_text.specs.Forms.{is_run}
use Rattle.network_tables.specs.Fields.{field, hex_number}
use Rattle.network_tables.specs.declared.route.Route.{Route}

-- what a route says: the card that it leads by; its network and its mask, as numbers whose highest
-- byte is the first of an address; and the gateway, where there is one
pub record RouteEntry : Type 0 where
  pub card : List ℕ
  pub network : ℕ
  pub mask : ℕ
  pub gateway : Option (List ℕ)

abbrev pub name_seen : ArrayString 15 → List ℕ
name_seen name = name.bytes

abbrev pub route_seen : Route → RouteEntry
route_seen route = record {
  card = route.card.bytes;
  network = route.network;
  mask = route.mask;
  gateway = route.gateway;
}

-- the name of a card: 1 to 15 characters of ASCII that are seen
abbrev pub card_name : List ℕ → Option (List ℕ)
card_name field = if is_run is_ascii_graphic 1 15 field then Some field else None

-- the system writes an address as the number of its bytes, the first one lowest
abbrev pub address_number : ℕ → ℕ
address_number number = from_be_bytes w32 (to_le_bytes w32 number)

-- a mark of a route is set: 2 for a gateway, 512 for a route that refuses its packets
abbrev pub is_set : ℕ → ℕ → Bool
is_set mark marks = not (bit_and marks mark == 0)

abbrev pub gateway_of : ℕ → ℕ → Option (List ℕ)
gateway_of marks gateway = if is_set 2 marks then Some (to_le_bytes w32 gateway) else None

-- what the card, the network, the gateway, the marks and the mask of a line say
abbrev pub entry_of : Option (List ℕ) → Option ℕ → Option ℕ → Option ℕ → Option ℕ
    → Option RouteEntry
entry_of (Some card) (Some network) (Some gateway) (Some marks) (Some mask) =
    if is_set 512 marks then None else Some (record {
      card = card;
      network = address_number network;
      mask = address_number mask;
      gateway = gateway_of marks gateway;
    })
entry_of _ _ _ _ _ = None

-- the route of a line
abbrev pub route_of : List ℕ → Option RouteEntry
route_of line = entry_of (card_name (field 0 line)) (hex_number (field 1 line))
    (hex_number (field 2 line)) (hex_number (field 3 line)) (hex_number (field 7 line))

-- a route leads to a host where they agree in the bits of the mask
abbrev pub leads_to : List ℕ → RouteEntry → Bool
leads_to host route = bit_and (from_be_bytes w32 host) route.mask == route.network

-- how many bits of an address it looks at
abbrev pub width_of : RouteEntry → ℕ
width_of route = count_ones route.mask
