-- By which socket a packet leaves, and how it is offered.
use Rattle.std.specs.Prelude.{ℕ, ◌&&◌, not, List, bytes_eq, set, slice_get, Result, Ok, Err}
use Rattle.std.specs.Prelude.{Option, Some, None, option_and_then, option_map, if◌then◌else◌}
use Rattle.std.specs.List.{position}
use Rattle.std.specs.Option.{is_some}
use Rattle.std.specs.declared.io.ErrorKind.{ErrorKind}
use Rattle.link_notices.specs.Offers.{offer_of}
use Rattle.link_notices.specs.declared.path.CardAddress.{CardAddress}
use Rattle.link_notices.specs.declared.sending.Sending.{Sending}
use Rattle.network_tables.specs.Groups.{is_multicast}
use Rattle.packet_paths.specs.Hosts.{packet_place, path_place, state_of_path}
use Rattle.packet_paths.specs.declared.night_paths.NightPaths.{NightPaths}
use Rattle.packet_paths.specs.declared.night_paths.Source.{Source}
use Rattle.packet_paths.specs.declared.night_socket.NightSocket.{NightSocket}
use Rattle.packet_paths.specs.declared.night_socket.NightSocket.TheVariants as socket
use Rattle.packet_paths.specs.declared.path.Path.{Path}
use Rattle.targets.specs.declared.address.Address.{Address}

-- the source at a place, if there is one
abbrev pub source_at : List Source → Option ℕ → Option Source
source_at sources place = option_and_then (slice_get sources) place

-- a source's address, and its card
abbrev pub address_and_card : Source → CardAddress
address_and_card source = record { address = source.address; card = source.card }

-- from where the packets of a path come
abbrev pub path_source : List Source → Path → Option CardAddress
path_source sources path = option_map address_and_card (source_at sources path.source)

-- the path at a place, if there is one
abbrev pub path_at : List Path → Option ℕ → Option Path
path_at paths place = option_and_then (slice_get paths) place

-- the path of a packet to a host, which may be the group of a universe
abbrev pub packet_path : NightPaths → List ℕ → Option Path
packet_path night host = path_at night.paths.items (packet_place night.paths.items host)

-- a path in the place of that to the same host
abbrev pub with_path_at : Option ℕ → List Path → Path → List Path
with_path_at None paths path = paths
with_path_at (Some place) paths path = set paths place path

abbrev pub with_path : List Path → Path → List Path
with_path paths path = with_path_at (path_place paths path.host) paths path

-- the place of the source of an address
abbrev pub source_place : List Source → List ℕ → Option ℕ
source_place sources address = position (λ source. bytes_eq source.address address) sources

-- from where a new path is looked along: one to a multicast group is not
abbrev pub first_source : List Source → Path → Option CardAddress
first_source sources path = if is_multicast path.host then None else path_source sources path

-- THE SOCKET OF A PACKET. From a source it is the one that is tied to its card, where one is, and
-- the host is no multicast group; else the one that is bound to its address; without a source it is
-- the one that is bound to none
abbrev pub source_socket : Option ℕ → Option Source → List ℕ → NightSocket
source_socket (Some place) (Some source) host =
    if is_some source.tied && not (is_multicast host) then socket.Tied place
    else socket.Bound place
source_socket (Some place) None host = socket.Unbound
source_socket None source host = socket.Unbound

abbrev pub path_source_place : Option Path → Option ℕ
path_source_place path = option_and_then (λ path. path.source) path

abbrev pub source_of_path : NightPaths → Option Path → Option Source
source_of_path night path = source_at night.sources.items (path_source_place path)

abbrev pub path_socket : NightPaths → Option Path → List ℕ → NightSocket
path_socket night path host =
    source_socket (path_source_place path) (source_of_path night path) host

-- HOW IT IS OFFERED to the system: by the state of its path, and of its source
abbrev pub path_sending : NightPaths → Option Path → Sending
path_sending night path = offer_of (state_of_path path)
    (option_map (λ source. source.state) (source_of_path night path)) night.leaving.is_any_route

-- where the last packet was lost, and why
abbrev pub failure_after : Option (Address × ErrorKind) → Address → Result (Unit {0}) ErrorKind
    → Option (Address × ErrorKind)
failure_after before to (Ok sent) = before
failure_after before to (Err reason) = Some (to, reason)
