-- Which path a packet has.
use Rattle.std.specs.Prelude.{ℕ, Bool, true, false, ◌&&◌, List, [], ◌∷◌, ◌==◌, bytes_eq}
use Rattle.std.specs.Prelude.{Option, Some, None, option_map, slice_get, slice_index}
use Rattle.std.specs.Prelude.{if◌then◌else◌}
use Rattle.std.specs.List.{position}
use Rattle.link_notices.specs.Told.{is_first_route}
use Rattle.link_notices.specs.declared.notice.LinkNotice.{LinkNotice}
use Rattle.link_notices.specs.declared.notice.LinkNotice.TheVariants as notice
use Rattle.link_notices.specs.declared.look.HostPath.{HostPath}
use Rattle.link_notices.specs.declared.path.PathState.{PathState}
use Rattle.link_notices.specs.declared.path.PathState.TheVariants.{Leads, Nowhere}
use Rattle.packet_paths.specs.declared.path.Path.{Path}

-- one that a universe can have: 239.255 and two numbers
abbrev pub is_universe_group : List ℕ → Bool
is_universe_group host = (slice_index host 0 == 239) && (slice_index host 1 == 255)

-- the place of the path of a host
abbrev pub path_place : List Path → List ℕ → Option ℕ
path_place paths host = position (λ path. bytes_eq path.host host) paths

-- the place of the path of a packet: its host's own; else, for the group of a universe, that of
-- 239.255.0.0, which stands for them all
abbrev pub or_groups : Option ℕ → List Path → List ℕ → Option ℕ
or_groups (Some place) paths host = Some place
or_groups None paths host =
    if is_universe_group host then path_place paths (239 ∷ 255 ∷ 0 ∷ 0 ∷ []) else None

abbrev pub packet_place : List Path → List ℕ → Option ℕ
packet_place paths host = or_groups (path_place paths host) paths host

-- a path that was not looked along so far: it leads where there is an address to send from
abbrev pub new_path : List ℕ → Option ℕ → Bool → Path
new_path host source has_address = record {
  host = host;
  source = source;
  state = if has_address then Leads else Nowhere;
  neighbor = None;
  silence = 0;
  has_link = true;
  route = None;
  look_time = None;
}

-- what is known of it
abbrev pub host_path : Path → HostPath
host_path path = record { source = path.source; state = path.state; silence = path.silence }

-- where there is no path, no route leads there
abbrev pub state_of_path : Option Path → PathState
state_of_path None = Nowhere
state_of_path (Some path) = path.state

-- no route leads to its host
abbrev pub is_nowhere : PathState → Bool
is_nowhere Nowhere = true
is_nowhere state = false

-- the host of a notice that a route leads there for the first time
abbrev pub host_to_route : List Path → LinkNotice → Option (List ℕ)
host_to_route paths (notice.Source place news) = None
host_to_route paths (notice.Path place news) =
    if is_first_route news.was news.is
    then option_map (λ path. path.host) (slice_get paths place) else None
