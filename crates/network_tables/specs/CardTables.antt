-- What the system's tables say of its cards and their addresses, as their lines are read.
use Rattle.std.specs.Prelude.{◌≡◌, ℕ, List, [], ◌∷◌, None, filter, filter_map, fold, map, take, ⊤}
use Rattle.arrayvec.specs.declared.array_string.ArrayString.{ArrayString}
use Rattle.network_tables.specs.Best.{routes_in}
use Rattle.network_tables.specs.Holders.{is_at_card}
use Rattle.network_tables.specs.Routes.{RouteEntry, name_seen}
use Rattle.network_tables.specs.Tables.{row_name, with_other}
use Rattle.network_tables.specs.Trees.{Says, found_after}
use Rattle.network_tables.specs.declared.table.Card.{Card}
use Rattle.network_tables.specs.declared.tree.TreeLine.{TreeLine}

-- the routes to the networks at which cards are: of more than 64 the first
abbrev pub card_networks : List (List ℕ) → List RouteEntry
card_networks lines = take 64 (filter is_at_card (routes_in lines))

-- what each line says of this machine's addresses
abbrev pub SayEach : List (List ℕ) → List TreeLine → Type 0
SayEach [] [] = ⊤
SayEach (line ∷ lines) (said ∷ more) = Says line said × SayEach lines more
SayEach _ _ = ⊥

-- the addresses of this machine, by what the lines of the tree of its routes say
abbrev pub own_addresses : List TreeLine → List (List ℕ)
own_addresses said = (fold found_after (record { leaf = None; addresses = [] }) said).addresses

-- the lines name these cards; a line that names none, as a heading, is passed over
abbrev pub AreNamed : List (List ℕ) → List (ArrayString 15) → Type 0
AreNamed lines names = map name_seen names ≡ filter_map row_name lines

-- rows with those of more cards, where they have none
abbrev pub with_others : List Card → List (ArrayString 15) → List Card
with_others rows names = fold with_other rows names
