-- What is told of a card or a route that a night cannot send by.
use Rattle.std.specs.Prelude.{ℕ, Bool, true, false, List, [], ◌∷◌, ◌++◌, ◌==◌, Option, Some}
use Rattle.std.specs.Prelude.{None, codes, if◌then◌else◌}
use Rattle.std.specs.List.{filter_map, list_all}
use Rattle.arrayvec.specs.declared.array_string.ArrayString.{ArrayString}
use Rattle.network_tables.specs.Tables.{is_known}
use Rattle.network_tables.specs.Texts.{card_text, host_text}
use Rattle.network_tables.specs.declared.choice.CardRefusal.{CardRefusal}
use Rattle.network_tables.specs.declared.choice.CardRefusal.TheVariants as refusal
use Rattle.network_tables.specs.declared.table.Card.{Card}
use Rattle.remarks.specs.Remarks.{remark_of, shown_name}
use Rattle.remarks.specs.declared.card.DownCards.{DownCards}

-- the route to a host leads by another card
abbrev pub of_route : List ℕ → List ℕ → List ℕ → List ℕ
of_route host card other = remark_of (codes "the route to " ∷ host_text host
    ∷ codes " leads by " ∷ other ∷ codes ", and not by " ∷ card
    ∷ codes ": --any-route sends by it" ∷ [])

-- what a card does not have: where the card of an address is not known, it may be this one
abbrev pub address_word : Bool → List ℕ
address_word true = codes "address"
address_word false = codes "known address"

-- the card of an address is not known: it may be one of so many that are down
abbrev pub unknown_parts : ℕ → List ℕ → List ℕ → List (List ℕ)
unknown_parts count address names =
    let up = codes "no card that is up is known to have " in
    if count == 0 then codes "no card is known to have " ∷ address ∷ codes ": " ∷ []
    else (if count == 1
    then up ∷ address ∷ codes ": " ∷ names ∷ codes " is down; ip link set " ∷ names
    ∷ codes " up; " ∷ []
    else up ∷ address ∷ codes ": " ∷ names ∷ codes " are down; ip link set NAME up; " ∷ [])

-- why this card cannot be sent by, and what to do
abbrev pub refusal_parts : CardRefusal → List ℕ → List ℕ → DownCards → List (List ℕ)
refusal_parts refusal.NoAddress card address down = codes "no card has " ∷ card ∷ codes ": " ∷ []
refusal_parts refusal.NoCard card address down = codes "no card " ∷ card ∷ codes ": " ∷ []
refusal_parts refusal.UnknownCard card address down = unknown_parts down.count card down.names.now
refusal_parts refusal.Down card address down =
    card ∷ codes " is down: ip link set " ∷ card ∷ codes " up; " ∷ []
refusal_parts refusal.NoLink card address down =
    card ∷ codes " has no link and no " ∷ address ∷ codes ": check the cable; " ∷ []
refusal_parts refusal.WithoutAddress card address down =
    card ∷ codes " has no " ∷ address ∷ codes ": " ∷ []

-- a card that can be sent by, and its address
abbrev pub text_with : Option (ArrayString 15) → Option (List ℕ) → Option (List ℕ)
text_with (Some name) (Some address) = Some (card_text name.bytes address)
text_with _ _ = None

abbrev pub choice_text : Card → Option (List ℕ)
choice_text card = text_with card.name card.address

-- what stands before one more text
abbrev pub front_behind : List ℕ → List (List ℕ) → List ℕ
front_behind front [] = front
front_behind front (text ∷ texts) = codes ", "

-- texts behind this one, with commas between them
abbrev pub listed_behind : List ℕ → List (List ℕ) → List (List ℕ)
listed_behind front [] = []
listed_behind front (text ∷ texts) = front ∷ text ∷ listed_behind (codes ", ") texts

-- which cards can be sent by
abbrev pub choices : List Card → List (List ℕ)
choices cards = listed_behind (codes "there are ") (filter_map choice_text cards)

-- a card that was named cannot be sent by
abbrev pub of_card : List ℕ → CardRefusal → List Card → DownCards → List ℕ
of_card named refusal cards down =
    let address = address_word (list_all (λ card. is_known card.name) cards) in
    remark_of (refusal_parts refusal (shown_name named) address down ++ choices cards)
