-- What is told of the cards, addresses and routes of a night while it runs.
use Rattle.std.specs.Prelude.{ℕ, if◌then◌else◌, List, [], ◌++◌, codes, unwrap_or}
use Rattle.std.specs.Prelude.{Option, Some, None}
use Rattle.std.specs.Str.{bytes_eq}
use Rattle.network_tables.specs.Routes.{RouteEntry}
use Rattle.network_tables.specs.Texts.{host_text}
use Rattle.link_notices.specs.declared.notice.SourceNotice.{SourceNotice}
use Rattle.link_notices.specs.declared.notice.PathNotice.{PathNotice}
use Rattle.link_notices.specs.declared.path.CardAddress.{CardAddress}
use Rattle.link_notices.specs.declared.path.PathState.{PathState}
use Rattle.link_notices.specs.declared.path.PathState.TheVariants.{Elsewhere, Leads, Nowhere}
use Rattle.link_notices.specs.declared.path.Trouble.{Trouble}
use Rattle.link_notices.specs.declared.path.Trouble.TheVariants as trouble
use Rattle.link_notices.specs.declared.source.SourceState.{SourceState}
use Rattle.link_notices.specs.declared.source.SourceState.TheVariants.{Sends, NoLink, Down, Lost}
use Rattle.night_lines.specs.Clock.{clock_text}
use Rattle.night_lines.specs.Routes.{no_route_text, route_text, origin_text}
use Rattle.night_lines.specs.declared.path_notices.Way.{Way}

-- a line that is told at a moment of the night
abbrev pub line_at : ℕ → List ℕ → List ℕ
line_at moment text = clock_text moment ++ codes " " ++ text ++ codes "\n"

-- a card has no link, or is down
abbrev pub no_link_text : List ℕ → List ℕ
no_link_text card = codes "no link " ++ card ++ codes ": nodes get nothing; check the cable"

abbrev pub down_text : List ℕ → List ℕ
down_text card =
    card ++ codes " is down: nodes get nothing; ip link set " ++ card ++ codes " up"

-- a card has lost its address
abbrev pub lost_text : CardAddress → List ℕ
lost_text source =
    source.card.bytes ++ codes " has lost " ++ host_text source.address
    ++ codes ": nodes get nothing"

-- a card has its address again, or its link
abbrev pub recovery_text : CardAddress → SourceState → List ℕ
recovery_text source Lost = source.card.bytes ++ codes " has " ++ host_text source.address
recovery_text source was = codes "link " ++ source.card.bytes

-- how an address that packets come from is, behind how it was
abbrev pub state_text : CardAddress → SourceState → SourceState → List ℕ
state_text source was NoLink = no_link_text source.card.bytes
state_text source was Down = down_text source.card.bytes
state_text source was Lost = lost_text source
state_text source was Sends = recovery_text source was

-- the line of a notice about an address that packets come from
abbrev pub source_notice_line : ℕ → CardAddress → SourceNotice → List ℕ
source_notice_line moment source notice =
    line_at moment (state_text source notice.was notice.is)

-- by which card the route to a host leads
abbrev pub leading_text : List ℕ → List ℕ → List ℕ
leading_text host card = codes "the route to " ++ host_text host ++ codes " leads by " ++ card

-- that it leads by another card than the source's
abbrev pub elsewhere_text : List ℕ → List ℕ → List ℕ
elsewhere_text host card =
    leading_text host card ++ codes ": nodes get nothing; check ip route get " ++ host_text host

abbrev pub other_card_text : List ℕ → PathState → List ℕ
other_card_text host (Elsewhere card) = elsewhere_text host card.bytes
other_card_text host Leads = []
other_card_text host Nowhere = []

-- nobody answers at a host, or at the gateway to it
abbrev pub host_silent_text : List ℕ → List ℕ
host_silent_text host =
    codes "no answer from " ++ host_text host
    ++ codes ": nothing has that address; check the node and --to"

abbrev pub gateway_silent_text : List ℕ → List ℕ → List ℕ
gateway_silent_text gateway host =
    codes "no answer from " ++ host_text gateway
    ++ codes ": nothing has that address; check the gateway to " ++ host_text host

-- the same, by who takes the host's packets first
abbrev pub silent_text : List ℕ → Option (List ℕ) → List ℕ
silent_text host None = host_silent_text host
silent_text host (Some neighbor) =
    if bytes_eq neighbor host then host_silent_text host else gateway_silent_text neighbor host

-- there is a route to a host now, from this source
abbrev pub new_route_text : CardAddress → Option RouteEntry → List ℕ
new_route_text source route = origin_text source ++ route_text source route

-- somebody answers
abbrev pub answering_text : List ℕ → List ℕ
answering_text neighbor = host_text neighbor ++ codes " answers"

-- a trouble on the way to a host is over
abbrev pub mended_text : Way → Option RouteEntry → Trouble → CardAddress → List ℕ
mended_text way route trouble.NoRouteYet source = new_route_text source route
mended_text way route trouble.NoAnswer source = answering_text (unwrap_or way.neighbor way.host)
mended_text way route was source = leading_text way.host source.card.bytes

-- the same, where the host has a source
abbrev pub mended_from : Way → Option RouteEntry → Trouble → Option CardAddress → List ℕ
mended_from way route was None = []
mended_from way route was (Some source) = mended_text way route was source

-- what is wrong with the way to a host, behind what was
abbrev pub trouble_text : Way → Option RouteEntry → Trouble → Trouble → List ℕ
trouble_text way route was trouble.None = mended_from way route was way.source
trouble_text way route was trouble.NoRouteYet = no_route_text way.host
trouble_text way route was trouble.NoRoute = no_route_text way.host
trouble_text way route was trouble.OtherCard = other_card_text way.host way.state
trouble_text way route was trouble.NoAnswer = silent_text way.host way.neighbor

-- the line of a notice about the way to a host, with the route that leads there now
abbrev pub path_notice_line : ℕ → Way → PathNotice → Option RouteEntry → List ℕ
path_notice_line moment way notice route =
    line_at moment (trouble_text way route notice.was notice.is)
