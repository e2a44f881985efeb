-- Which network refuses a night.
use Rattle.std.specs.Prelude.{ℕ, Bool, List, Option, Some, None, codes}
use Rattle.std.specs.Prelude.{option_and_then, option_map}
use Rattle.std.specs.List.{find}
use Rattle.std.specs.Option.{is_some}
use Rattle.link_notices.specs.Paths.{refused_card}
use Rattle.packet_paths.specs.Sends.{source_at}
use Rattle.packet_paths.specs.declared.night_paths.NightPaths.{NightPaths}
use Rattle.packet_paths.specs.declared.night_paths.Source.{Source}
use Rattle.packet_paths.specs.declared.path.Path.{Path}
use Rattle.packet_paths.specs.declared.refused_route.RefusedRoute.{RefusedRoute}

-- a route that refuses a night: to this host, by another card than this one
pub record RouteRefusal : Type 0 where
  pub host : List ℕ
  pub card : List ℕ
  pub other : List ℕ

abbrev pub refusal_seen : RefusedRoute → RouteRefusal
refusal_seen refused = record {
  host = refused.host;
  card = refused.card.bytes;
  other = refused.other.bytes;
}

-- the card of a source by its name
abbrev pub card_told : Option Source → List ℕ
card_told (Some source) = source.card.bytes
card_told None = codes "the card"

-- a path's route refuses a night by the other card that it leads by
abbrev pub path_refusal : List Source → Bool → Path → Option RouteRefusal
path_refusal sources is_named path = option_map (λ other. record {
  host = path.host;
  card = card_told (source_at sources path.source);
  other = other.bytes;
}) (refused_card path.state is_named)

-- the first path whose route refuses a night
abbrev pub refused_path : Bool → List Path → Option Path
refused_path is_named paths = find (λ path. is_some (refused_card path.state is_named)) paths

-- by it the night is refused, where a card is named
abbrev pub refused_route : NightPaths → Option RouteRefusal
refused_route night =
    let is_named = is_some night.leaving.source in
    option_and_then (path_refusal night.sources.items is_named)
    (refused_path is_named night.paths.items)
