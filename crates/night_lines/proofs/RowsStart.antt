-- What a night tells at its start, evaluated: by the addresses that its packets go to.
use Rattle.std.specs.Prelude.{◌≡◌, List, [], ◌∷◌, codes, false, true, refl, Some, None}
use Rattle.std.specs.Fmt.{digits}
use Rattle.packet_paths.specs.Hosts.{new_path}
use Rattle.packet_paths.specs.declared.path.Path.{Path}
use Rattle.night_lines.specs.StartNetworks.{are_cards_told, first_host, no_route_told}
use Rattle.night_lines.specs.Starts.{closing_lines}

-- a node, another one that is not reached yet, and the group of universe 1
abbrev paths : List Path
paths = new_path (10 ∷ 0 ∷ 0 ∷ 7 ∷ []) (Some 0) true ∷ new_path (10 ∷ 0 ∷ 1 ∷ 7 ∷ []) None false
    ∷ new_path (239 ∷ 255 ∷ 0 ∷ 1 ∷ []) (Some 1) true ∷ []

cards : (are_cards_told paths false ≡ true) × (are_cards_told paths true ≡ false)
    × (are_cards_told (new_path (10 ∷ 0 ∷ 0 ∷ 7 ∷ []) (Some 0) true ∷ []) false ≡ false)
cards = (refl, refl, refl)

hosts : (first_host paths 1 ≡ Some (239 ∷ 255 ∷ 0 ∷ 1 ∷ [])) × (first_host paths 2 ≡ None)
hosts = (refl, refl)

routes : (no_route_told (new_path (10 ∷ 0 ∷ 0 ∷ 7 ∷ []) (Some 0) true) ≡ None)
    × (no_route_told (new_path (10 ∷ 0 ∷ 0 ∷ 7 ∷ []) None false)
    ≡ Some (codes "no route to 10.0.0.7: nodes get nothing until there is one\n"))
unfolding digits
routes = (refl, refl)

ends : closing_lines None false ≡ codes
    "end ends the night, leave leaves the light to others; control-C does nothing\n" ∷ []
ends = refl
