-- Which route leads to a host.
use Rattle.std.specs.Prelude.{◌≡◌, ℕ, ◌≤◌, ◌<◌, true, List, ◌∷◌, ◌++◌, fold, All}
use Rattle.std.specs.Prelude.{Option, Some, None, filter_map, nat_le, if◌then◌else◌}
use Rattle.network_tables.specs.Routes.{RouteEntry, leads_to, route_of, width_of}

-- the better of a route that leads to the host, and of the best before it
abbrev pub wider : Option RouteEntry → RouteEntry → RouteEntry
wider None route = route
wider (Some before) route = if nat_le (width_of route) (width_of before) then before else route

-- the best of the routes up to this one
abbrev pub better : List ℕ → Option RouteEntry → RouteEntry → Option RouteEntry
better host best route = if leads_to host route then Some (wider best route) else best

-- the best of the routes of a table, read one by one
abbrev pub best_among : List ℕ → List RouteEntry → Option RouteEntry
best_among host routes = fold (better host) None routes

-- the best after one line more, which may be no route's
abbrev pub better_by : List ℕ → Option RouteEntry → Option RouteEntry → Option RouteEntry
better_by host best (Some route) = better host best route
better_by host best None = best

-- the routes of a table; a line that is no route's, as the heading, is passed over
abbrev pub routes_in : List (List ℕ) → List RouteEntry
routes_in lines = filter_map route_of lines

-- it does not lead to the host
abbrev pub LeadsElsewhere : List ℕ → RouteEntry → Type 0
LeadsElsewhere host route = leads_to host route ≡ true → ⊥

-- it does not lead there, or looks at fewer bits than so many
abbrev pub IsNarrower : List ℕ → ℕ → RouteEntry → Type 0
IsNarrower host width route = leads_to host route ≡ true → width_of route < width

-- it does not lead there, or looks at no more bits than so many
abbrev pub IsNotWider : List ℕ → ℕ → RouteEntry → Type 0
IsNotWider host width route = leads_to host route ≡ true → width_of route ≤ width

-- of the routes that lead to a host this one is the first that looks at most bits: it leads there,
-- each before it that does looks at fewer, and none behind it at more
pub record IsFirstWidest (host : List ℕ) (routes : List RouteEntry) (route : RouteEntry)
    : Type 0 where
  pub before : List RouteEntry
  pub behind : List RouteEntry
  pub among : routes ≡ before ++ route ∷ behind
  pub leads : leads_to host route ≡ true
  pub narrower : All (IsNarrower host (width_of route)) before
  pub not_wider : All (IsNotWider host (width_of route)) behind

-- the route that leads to a host, or that none of them does
abbrev pub IsRouteTo : List ℕ → List RouteEntry → Option RouteEntry → Type 0
IsRouteTo host routes None = All (LeadsElsewhere host) routes
IsRouteTo host routes (Some route) = IsFirstWidest host routes route

-- THE BEST ROUTE. Read one by one, the routes give the first of those that lead to the host and
-- look at most bits; and none exactly where none leads there
abbrev pub BestRouteLaw : Type 0
BestRouteLaw = (host : List ℕ) (routes : List RouteEntry)
    → IsRouteTo host routes (best_among host routes)
