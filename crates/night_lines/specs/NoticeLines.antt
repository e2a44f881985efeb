-- What is told of the notices of a night's network, by the places that they name.
use Rattle.std.specs.Prelude.{ℕ, List, Option}
use Rattle.std.specs.Prelude.{option_and_then, option_map, slice_get}
use Rattle.arrayvec.specs.declared.array_string.ArrayString.{ArrayString}
use Rattle.network_tables.specs.Routes.{route_seen}
use Rattle.network_tables.specs.declared.route.Route.{Route}
use Rattle.link_notices.specs.declared.notice.LinkNotice.{LinkNotice}
use Rattle.link_notices.specs.declared.notice.LinkNotice.TheVariants as notice
use Rattle.link_notices.specs.declared.path.CardAddress.{CardAddress}
use Rattle.packet_paths.specs.declared.path.Path.{Path}
use Rattle.night_lines.specs.Notices.{path_notice_line, source_notice_line}
use Rattle.night_lines.specs.Sources.{origin_of}
use Rattle.night_lines.specs.declared.night_source.NightSource.{NightSource}
use Rattle.night_lines.specs.declared.notices.NoticeNetwork.{NoticeNetwork}
use Rattle.night_lines.specs.declared.path_notices.Way.{Way}

-- the address at a place, and its card
abbrev pub origin_at : List NightSource → Option ℕ → Option CardAddress
origin_at sources place =
    option_map origin_of (option_and_then (slice_get sources) place)

-- the way along a path
abbrev pub way_of : List NightSource → Path → Way
way_of sources path = record {
  host = path.host;
  state = path.state;
  source = origin_at sources path.source;
  neighbor = path.neighbor;
}

-- the line of a notice, by what stands at its place, and by the route to its host
abbrev pub notice_line : ℕ → NoticeNetwork → Option Route → LinkNotice → Option (List ℕ)
notice_line moment network route (notice.Source place news) = option_map
    (λ source. source_notice_line moment (origin_of source) news)
    (slice_get network.sources.now place)
notice_line moment network route (notice.Path place news) = option_map
    (λ path. path_notice_line moment (way_of network.sources.now path) news
    (option_map route_seen route))
    (slice_get network.paths.now place)

abbrev pub notice_seen : ArrayString 156 → List ℕ
notice_seen line = line.bytes
