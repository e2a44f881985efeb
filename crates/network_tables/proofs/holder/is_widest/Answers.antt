use Rattle.std.proofs.Common.{◌≡◌, true, rules, tests, sym, ◌∙◌, not, ◌||◌, nat_le}
use Rattle.std.proofs.lemmas.Iterator.{YieldsList-from_slice}
use Rattle.std.proofs.lemmas.Iterator.Search.{all_from_yields_List}
use Rattle.network_tables.specs.Routes.{leads_to, route_seen, width_of}
use Rattle.network_tables.proofs.holder.is_widest.Goals as goal

pub returns-then-leads_to : goal.returns-then-leads_to
returns-then-leads_to c =
    let leads : leads_to c.args.address (route_seen c.args.network.now) ≡ true
    = sym c.leads_to.ensures ∙ c.if-leads_to.true in
    rw leads
    (all_from_yields_List (λ other. not (leads_to c.args.address (route_seen other))
    || nat_le (width_of (route_seen other)) (width_of (route_seen c.args.network.now))) _ _
    c.all.result c.all.ensures.ran (YieldsList-from_slice c.args.networks.now cc)
    (λ x b q k. search (rules, tests)))
