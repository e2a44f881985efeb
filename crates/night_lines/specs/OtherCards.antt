-- What is told of the cards of this machine that nothing is sent by.
use Rattle.std.specs.Prelude.{ℕ, ◌||◌, if◌then◌else◌, List, [], ◌∷◌, ◌++◌, codes, flat_map}
use Rattle.std.specs.Prelude.{filter_map, bytes_eq, Option, Some, None}
use Rattle.arrayvec.specs.declared.array_string.ArrayString.{ArrayString}
use Rattle.network_tables.specs.Holders.{is_among}
use Rattle.network_tables.specs.Texts.{card_text}
use Rattle.network_tables.specs.declared.table.Card.{Card}
use Rattle.night_lines.specs.declared.other_cards.OtherCard.{OtherCard}

-- a card with an address that no packets come from, unless it is the machine's way to itself
abbrev pub other_at :
    List (List ℕ) → Option (ArrayString 15) → Option (List ℕ) → Option OtherCard
other_at sources (Some name) (Some address) =
    if is_among sources address || bytes_eq name.bytes (codes "lo") then None
    else Some (record { name = name; address = address })
other_at sources (Some name) None = None
other_at sources None address = None

abbrev pub other_card : List (List ℕ) → Card → Option OtherCard
other_card sources card = other_at sources card.name card.address

-- one more of them, behind a comma
abbrev pub more_text : OtherCard → List ℕ
more_text other = codes ", " ++ card_text other.name.bytes other.address

-- all of them, and how to send by the first
abbrev pub line_of_others : OtherCard → List OtherCard → List ℕ
line_of_others first rest =
    codes "other cards: " ++ card_text first.name.bytes first.address
    ++ flat_map more_text rest ++ codes "; --interface " ++ first.name.bytes
    ++ codes " sends by it\n"

abbrev pub line_of_all : List OtherCard → Option (List ℕ)
line_of_all [] = None
line_of_all (first ∷ rest) = Some (line_of_others first rest)

-- the line of the cards that packets could come from and do not, where there are any
abbrev pub other_cards_line : List (List ℕ) → List Card → Option (List ℕ)
other_cards_line sources cards = line_of_all (filter_map (other_card sources) cards)

abbrev pub other_cards_seen : ArrayString 2300 → List ℕ
other_cards_seen line = line.bytes
