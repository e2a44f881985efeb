-- What is told of the addresses that packets come from, and of routes.
use Rattle.std.specs.Prelude.{ℕ, ◌==◌, if◌then◌else◌, List, [], ◌++◌, codes, decimal}
use Rattle.std.specs.Prelude.{Option, Some, None}
use Rattle.std.specs.Str.{bytes_eq}
use Rattle.std.specs.Int.{to_be_bytes, w32}
use Rattle.network_tables.specs.Routes.{RouteEntry, width_of}
use Rattle.network_tables.specs.Texts.{host_text}
use Rattle.link_notices.specs.declared.path.CardAddress.{CardAddress}

-- an address that packets come from, and its card
abbrev pub origin_text : CardAddress → List ℕ
origin_text source =
    codes "from " ++ host_text source.address ++ codes " (" ++ source.card.bytes ++ codes ")"

-- what a route leads to
abbrev pub destination_text : RouteEntry → List ℕ
destination_text route =
    if width_of route == 0 then codes ", the default route"
    else codes ", the route to " ++ host_text (to_be_bytes w32 route.network)
    ++ codes "/" ++ decimal (width_of route)

-- the route by which a host is reached from a source, where it leads by the card of that
abbrev pub route_text : CardAddress → Option RouteEntry → List ℕ
route_text source None = []
route_text source (Some route) =
    if bytes_eq route.card source.card.bytes then destination_text route else []

-- a source, and the route by which a host is reached from it
abbrev pub origin_line : CardAddress → Option RouteEntry → List ℕ
origin_line source route = origin_text source ++ route_text source route ++ codes "\n"

-- that no route leads to a host
abbrev pub no_route_text : List ℕ → List ℕ
no_route_text host =
    codes "no route to " ++ host_text host ++ codes ": nodes get nothing until there is one"

abbrev pub no_route_line : List ℕ → List ℕ
no_route_line host = no_route_text host ++ codes "\n"
