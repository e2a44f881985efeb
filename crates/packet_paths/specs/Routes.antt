-- When the route to a host is looked for, and what a path is then.
use Rattle.std.specs.Prelude.{ℕ, ◌-◌, Bool, false, ◌||◌, List, bytes_eq, nat_lt}
use Rattle.std.specs.Prelude.{Option, Some, None, if◌then◌else◌}
use Rattle.link_notices.specs.declared.path.CardAddress.{CardAddress}
use Rattle.link_notices.specs.Paths.{path_state}
use Rattle.packet_paths.specs.declared.path.Path.{Path}
use Rattle.network_tables.specs.Groups.{is_multicast}

-- a look counts for less than 1 ms, or 1,000,000 ns; where the clock cannot be read none counts
abbrev pub is_fresh : Option ℕ → Option ℕ → Bool
is_fresh (Some look) (Some now) = nat_lt (now - look) 1000000
is_fresh look now = false

-- the address from which a look before a packet is made: none to a multicast group, nor where any
-- route will do
abbrev pub look_source : List ℕ → Option CardAddress → Bool → Option CardAddress
look_source host source is_any_route =
    if is_multicast host || is_any_route then None else source

-- an address with its card, where this is the address
abbrev pub if_of : List ℕ → Option CardAddress → Option CardAddress
if_of address None = None
if_of address (Some known) = if bytes_eq known.address address then Some known else None

-- the card of an address that a route gives, where it is known: the source's own, or the last
-- look's
abbrev pub known_card : List ℕ → CardAddress → Option CardAddress → Option CardAddress
known_card address source last =
    if bytes_eq source.address address then Some source else if_of address last

-- a path on which this was found
abbrev pub with_route : Path → Option CardAddress → CardAddress → Bool → Path
with_route path found source is_any_route =
    record path { route = found; state = path_state found source is_any_route }
