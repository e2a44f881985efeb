-- The best route of the lines of a table, one line after the other.
use Rattle.std.proofs.Common.{◌≡◌, ◌∙◌, ℕ, List, [], ◌∷◌, ◌++◌, refl, ap, Option, Some, None, fold}
use Rattle.std.specs.List.{cons_option}
use Rattle.std.proofs.lemmas.List.Elements.{filter_map-append}
use Rattle.std.proofs.lemmas.List.Sums.{fold-append}
use Rattle.network_tables.specs.Best.{best_among, better, better_by, routes_in}
use Rattle.network_tables.specs.Routes.{RouteEntry, route_of}

-- one line more
pub best_more : (host : List ℕ) (lines : List (List ℕ)) (line : List ℕ)
    → best_among host (routes_in (lines ++ line ∷ []))
    ≡ better_by host (best_among host (routes_in lines)) (route_of line)
best_more host lines line =
    ap (best_among host) (filter_map-append route_of lines (line ∷ []))
    ∙ fold-append (better host) None (routes_in lines) (routes_in (line ∷ []))
    ∙ by_route (route_of line)
  where
    by_route : (route : Option RouteEntry)
        → fold (better host) (best_among host (routes_in lines)) (cons_option route [])
        ≡ better_by host (best_among host (routes_in lines)) route
    by_route None = refl
    by_route (Some route) = refl
