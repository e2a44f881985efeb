use Rattle.std.proofs.Common.{◌≡◌, ◌<◌, ◌∙◌, ◌∷◌, [], length, map, option_map, sym, ap, arith}
use Rattle.std.proofs.Common.{filter, option_to_list}
use Rattle.std.proofs.lemmas.Bool.Decides.{nat_tests}
use Rattle.std.proofs.lemmas.List.{length-map, map-append}
use Rattle.network_tables.specs.Holders.{is_at_card}
use Rattle.network_tables.specs.Routes.{route_of, route_seen}
use Rattle.network_tables.proofs.TablesRead.{no_network, no_room, no_route, one_network}
use Rattle.network_tables.proofs.card_tables.add_network.Goals as goal

pub returns-then-is_full : goal.returns-then-is_full
returns-then-is_full c =
    let rows = c.args.networks.now.items in
    let long = length-map rows route_seen in
    let full : length rows ≡ 64
    = grind (arith, nat_tests, c.is_full.ensures.value, c.if-is_full.true) in
    no_room (map route_seen rows) (filter is_at_card (option_to_list (route_of c.args.line.now)))
    (long ∙ full)

pub returns-in_default : goal.returns-in_default
returns-in_default c =
    let rows = c.args.networks.now.items in
    let long = length-map rows route_seen in
    no_route (map route_seen rows) (route_of c.args.line.now)
    (omega (arith, long, c.is_full.ensures.fits))
    (sym c.read.ensures ∙ ap (option_map route_seen) c.in_default.is)

pub returns-else-is_at_card : goal.returns-else-is_at_card
returns-else-is_at_card c =
    let rows = c.args.networks.now.items in
    let long = length-map rows route_seen in
    no_network (map route_seen rows) (route_of c.args.line.now) (route_seen c.in-Some.route)
    (omega (arith, long, c.is_full.ensures.fits))
    (sym c.read.ensures ∙ ap (option_map route_seen) c.in-Some.is)
    (sym c.is_at_card.ensures ∙ c.if-is_at_card.false)

pub returns-then-is_at_card : goal.returns-then-is_at_card
returns-then-is_at_card c =
    let rows = c.args.networks.now.items in
    let long = length-map rows route_seen in
    let room : length rows < 64
    = grind (
      arith,
      nat_tests,
      c.is_full.ensures.value,
      c.is_full.ensures.fits,
      c.if-is_full.false,
    ) in
    ap (map route_seen) c.push.ensures.items
    ∙ map-append route_seen rows (c.in-Some.route ∷ [])
    ∙ one_network (map route_seen rows) (route_of c.args.line.now) (route_seen c.in-Some.route)
    (omega (arith, long, room))
    (sym c.read.ensures ∙ ap (option_map route_seen) c.in-Some.is)
    (sym c.is_at_card.ensures ∙ c.if-is_at_card.true)
