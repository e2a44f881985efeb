-- What is told at the start of a night of the addresses that packets come from.
use Rattle.std.specs.Prelude.{ℕ, Bool, List, map, take, Option, None, if◌then◌else◌}
use Rattle.network_tables.specs.declared.route.Route.{Route}
use Rattle.packet_paths.specs.declared.night_paths.Source.{Source}
use Rattle.packet_paths.specs.declared.path.Path.{Path}
use Rattle.night_lines.specs.StartNetworks.{first_host}
use Rattle.night_lines.specs.declared.night_source.NightSource.{NightSource}

-- a source that packets come from, with the route that is told of it
abbrev pub with_route : Source → Option Route → NightSource
with_route source route =
    record { address = source.address; card = source.card; route = route }

-- the first eight, without a route
abbrev pub without_routes : List Source → List NightSource
without_routes sources = map (λ source. with_route source None) (take 8 sources)

-- the host whose route is told of the source at a place; where a card was named, none is told
abbrev pub host_told : List Path → ℕ → Bool → Option (List ℕ)
host_told paths place is_named = if is_named then None else first_host paths place
