-- The address that packets come from, where a card is named.
use Rattle.std.specs.Prelude.{◌≡◌, ℕ, List, Option, Some, None, Result, Ok, Err}
use Rattle.std.specs.Net.Addr.{ipv4_octets}
use Rattle.std.specs.Net.Grammar.{IsIpv4Text}
use Rattle.std.specs.declared.net.ipv4_addr.Ipv4Addr.{Ipv4Addr}
use Rattle.arrayvec.specs.declared.array_string.ArrayString.{ArrayString}
use Rattle.network_tables.specs.Tables.{of_address, of_name}
use Rattle.network_tables.specs.declared.card.CardState.{CardState}
use Rattle.network_tables.specs.declared.card.CardState.TheVariants as card
use Rattle.network_tables.specs.declared.choice.CardRefusal.{CardRefusal}
use Rattle.network_tables.specs.declared.choice.CardRefusal.TheVariants as refusal
use Rattle.network_tables.specs.declared.choice.CardWord.{CardWord}
use Rattle.network_tables.specs.declared.choice.CardWord.TheVariants as word
use Rattle.network_tables.specs.declared.table.Card.{Card}

-- a word that writes an address names that; any other is a name
abbrev pub Names : List ℕ → CardWord → Type 0
Names text (word.Address address) = IsIpv4Text text address
Names text (word.Name name) =
    (name.now ≡ text) × ((address : Ipv4Addr) → IsIpv4Text text address → ⊥)

-- the row that a word names
abbrev pub named_row : CardWord → List Card → Option Card
named_row (word.Address address) rows = of_address (ipv4_octets address) rows
named_row (word.Name name) rows = of_name name.now rows

-- why a card without an address cannot be sent by, as it is
abbrev pub without_address : CardState → CardRefusal
without_address card.Down = refusal.Down
without_address card.NoLink = refusal.NoLink
without_address card.Up = refusal.WithoutAddress

-- a row that has an address of a card that is known is sent by, from that address
abbrev pub choice_of : Option (ArrayString 15) → Option (List ℕ) → CardState
    → Result (List ℕ) CardRefusal
choice_of (Some name) (Some address) state = Ok address
choice_of None (Some address) state = Err refusal.UnknownCard
choice_of name None state = Err (without_address state)

-- by the word, the row that it names, and how the card is
abbrev pub choice : CardWord → Option Card → CardState → Result (List ℕ) CardRefusal
choice named (Some row) state = choice_of row.name row.address state
choice (word.Name name) None state = Err refusal.NoCard
choice (word.Address address) None state = Err refusal.NoAddress
