-- What the tables of cards say, one line after the other.
use Rattle.std.proofs.Common.{◌≡◌, ◌∙◌, ℕ, zero, suc, List, [], ◌∷◌, ◌++◌, Option, Some, None, refl}
use Rattle.std.proofs.Common.{◌<◌, ◌≤◌, true, false, cond, length, append-nil, arith, take_all}
use Rattle.std.proofs.Common.{length-append}
use Rattle.std.proofs.Common.{sym, ap, ap₂, filter, filter_map, fold, take, option_to_list}
use Rattle.std.specs.List.{cons_option}
use Rattle.std.proofs.lemmas.List.{map-append, take-append-le}
use Rattle.std.proofs.lemmas.List.Elements.{filter-append, filter_map-append}
use Rattle.std.proofs.lemmas.List.Sums.{fold-append}
use Rattle.arrayvec.specs.declared.array_string.ArrayString.{ArrayString}
use Rattle.network_tables.specs.Best.{routes_in}
use Rattle.network_tables.specs.CardTables.{AreNamed, SayEach, card_networks, with_others}
use Rattle.network_tables.specs.Holders.{is_at_card}
use Rattle.network_tables.specs.Routes.{RouteEntry, name_seen, route_of}
use Rattle.network_tables.specs.Tables.{row_name, with_other}
use Rattle.network_tables.specs.Trees.{Found, Says, found_after}
use Rattle.network_tables.specs.declared.table.Card.{Card}
use Rattle.network_tables.specs.declared.tree.TreeLine.{TreeLine}

one_of : {X : Type 0} (found : Option X) → cons_option found [] ≡ option_to_list found
one_of None = refl
one_of (Some x) = refl

cut-more : {X : Type 0} (n : ℕ) (front back : List X)
    → take n (take n front ++ back) ≡ take n (front ++ back)
cut-more zero front back = refl
cut-more (suc n) [] back = refl
cut-more (suc n) (x ∷ front) back = ap (λ l. x ∷ l) (cut-more n front back)

-- where there is no room
pub no_room : (rows more : List RouteEntry) → length rows ≡ 64 → rows ≡ take 64 (rows ++ more)
no_room rows more full = sym (take-append-le 64 rows more (omega (arith, full))
    ∙ take_all 64 rows (omega (arith, full)))

all_of : (rows : List RouteEntry) → length rows ≤ 64 → rows ≡ take 64 (rows ++ [])
all_of rows fits = sym (ap (take 64) (append-nil rows) ∙ take_all 64 rows fits)

-- a line that is no route's, or a route's to no network at which its card is
pub no_route : (rows : List RouteEntry) (row : Option RouteEntry) → length rows ≤ 64
    → row ≡ None → rows ≡ take 64 (rows ++ filter is_at_card (option_to_list row))
no_route rows None fits is = all_of rows fits
no_route rows (Some route) fits is = absurd (grind (arith, is))

pub no_network : (rows : List RouteEntry) (row : Option RouteEntry) (route : RouteEntry)
    → length rows ≤ 64 → row ≡ Some route → is_at_card route ≡ false
    → rows ≡ take 64 (rows ++ filter is_at_card (option_to_list row))
no_network rows row route fits is other =
    all_of rows fits ∙ sym (ap (λ r. take 64 (rows ++ filter is_at_card (option_to_list r))) is
    ∙ ap (λ b. take 64 (rows ++ cond b (route ∷ []) [])) other)

pub one_network : (rows : List RouteEntry) (row : Option RouteEntry) (route : RouteEntry)
    → length rows < 64 → row ≡ Some route → is_at_card route ≡ true
    → rows ++ route ∷ [] ≡ take 64 (rows ++ filter is_at_card (option_to_list row))
one_network rows row route room is at =
    sym (ap (λ r. take 64 (rows ++ filter is_at_card (option_to_list r))) is
    ∙ ap (λ b. take 64 (rows ++ cond b (route ∷ []) [])) at
    ∙ take_all 64 (rows ++ route ∷ []) (omega (arith, room, length-append rows (route ∷ []))))

-- the networks of one line more
pub networks_more : (lines : List (List ℕ)) (line : List ℕ) → card_networks (lines ++ line ∷ [])
    ≡ take 64 (card_networks lines ++ filter is_at_card (option_to_list (route_of line)))
networks_more lines line =
    ap (λ routes. take 64 (filter is_at_card routes)) (filter_map-append route_of lines (line ∷ []))
    ∙ ap (take 64) (filter-append is_at_card (routes_in lines) (routes_in (line ∷ [])))
    ∙ ap (λ more. take 64 (filter is_at_card (routes_in lines) ++ filter is_at_card more))
    (one_of (route_of line))
    ∙ sym (cut-more 64 (filter is_at_card (routes_in lines))
    (filter is_at_card (option_to_list (route_of line))))

-- what one line more says
pub said_more : (lines : List (List ℕ)) (said : List TreeLine) (line : List ℕ) (says : TreeLine)
    → SayEach lines said → Says line says → SayEach (lines ++ line ∷ []) (said ++ says ∷ [])
said_more [] [] line says h s = (s, tt)
said_more [] (x ∷ said) line says h s = absurd h
said_more (l ∷ lines) [] line says h s = absurd h
said_more (l ∷ lines) (x ∷ said) line says h s = (h.0, said_more lines said line says h.1 s)

pub found_more : (none : Found) (said : List TreeLine) (says : TreeLine)
    → fold found_after none (said ++ says ∷ []) ≡ found_after (fold found_after none said) says
found_more none said says = fold-append found_after none said (says ∷ [])

-- one line more that names a card, or none
pub named_more : (lines : List (List ℕ)) (names : List (ArrayString 15)) (line : List ℕ)
    (name : ArrayString 15) → AreNamed lines names → Some (name_seen name) ≡ row_name line
    → AreNamed (lines ++ line ∷ []) (names ++ name ∷ [])
named_more lines names line name h is =
    map-append name_seen names (name ∷ [])
    ∙ ap₂ (λ xs ys. xs ++ ys) h (ap (λ found. cons_option found []) is)
    ∙ sym (filter_map-append row_name lines (line ∷ []))

pub unnamed_more : (lines : List (List ℕ)) (names : List (ArrayString 15)) (line : List ℕ)
    → AreNamed lines names → None ≡ row_name line → AreNamed (lines ++ line ∷ []) names
unnamed_more lines names line h is =
    h ∙ sym (filter_map-append row_name lines (line ∷ [])
    ∙ ap (λ found. filter_map row_name lines ++ cons_option found []) (sym is)
    ∙ append-nil (filter_map row_name lines))

pub others_more : (rows : List Card) (names : List (ArrayString 15)) (name : ArrayString 15)
    → with_others rows (names ++ name ∷ []) ≡ with_other (with_others rows names) name
others_more rows names name = fold-append with_other rows names (name ∷ [])
