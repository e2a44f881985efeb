-- What is told at the start of a night of how its packets leave this machine.
use Rattle.std.specs.Prelude.{ℕ, Bool, false, ◌&&◌, not, nat_eq, if◌then◌else◌}
use Rattle.std.specs.Prelude.{List, [], ◌++◌, filter_map, map, Option, Some, None, option_map}
use Rattle.std.specs.List.{find, list_any}
use Rattle.std.specs.Option.{option_to_list}
use Rattle.network_tables.specs.Routes.{route_seen}
use Rattle.network_tables.specs.Groups.{is_multicast}
use Rattle.packet_paths.specs.Hosts.{is_nowhere}
use Rattle.packet_paths.specs.declared.path.Path.{Path}
use Rattle.night_lines.specs.OtherCards.{other_cards_line}
use Rattle.night_lines.specs.Routes.{no_route_line, origin_line}
use Rattle.night_lines.specs.Sources.{origin_of}
use Rattle.night_lines.specs.declared.night_source.NightSource.{NightSource}
use Rattle.night_lines.specs.declared.start_network.StartNetwork.{StartNetwork}

-- the source of a path is the one at this place
abbrev pub is_place : ℕ → Option ℕ → Bool
is_place place None = false
is_place place (Some source) = nat_eq source place

abbrev pub leaves_from : ℕ → Path → Bool
leaves_from place path = is_place place path.source

-- the first host that packets go to from the source at a place
abbrev pub first_host : List Path → ℕ → Option (List ℕ)
first_host paths place = option_map (λ path. path.host) (find (leaves_from place) paths)

-- a source, and its route where no card was named
abbrev pub origin_told : Bool → NightSource → List ℕ
origin_told is_named source =
    origin_line (origin_of source)
    (if is_named then None else option_map route_seen source.route)

-- no card was named, and packets go to a multicast group
abbrev pub are_cards_told : List Path → Bool → Bool
are_cards_told paths is_named =
    not is_named && list_any (λ path. is_multicast path.host) paths

-- then the cards that nothing is sent by are told, if there are any
abbrev pub card_lines : StartNetwork → List (List ℕ)
card_lines network =
    if are_cards_told network.paths.now network.is_named
    then option_to_list (other_cards_line
    (map (λ source. source.address) network.sources.now.items) network.cards.now.rows.items)
    else []

-- that no route leads to the host of a path, where none does
abbrev pub no_route_told : Path → Option (List ℕ)
no_route_told path = if is_nowhere path.state then Some (no_route_line path.host) else None

-- each source, the other cards, and each host that no route leads to, in this order
abbrev pub network_lines : StartNetwork → List (List ℕ)
network_lines network =
    map (origin_told network.is_named) network.sources.now.items
    ++ card_lines network ++ filter_map no_route_told network.paths.now
