-- The cards of this machine: a row for each address of one, or one without an address.
use Rattle.std.specs.Prelude.{ℕ, Bool, false, List, ◌∷◌, ◌++◌, [], length, take, bytes_eq}
use Rattle.std.specs.Prelude.{nat_le, Option, Some, None, if◌then◌else◌}
use Rattle.std.specs.List.{find, position}
use Rattle.std.specs.Option.{is_some}
use Rattle.ascii_text.specs.Forms.{is_colon}
use Rattle.arrayvec.specs.declared.array_string.ArrayString.{ArrayString}
use Rattle.network_tables.specs.Fields.{field}
use Rattle.network_tables.specs.Routes.{card_name}
use Rattle.network_tables.specs.declared.table.Card.{Card}

-- the name in a line of `/proc/net/dev`: what stands before the first colon of its first field
abbrev pub name_before : Option ℕ → List ℕ → Option (List ℕ)
name_before (Some end) front = card_name (take end front)
name_before None front = None

abbrev pub row_name : List ℕ → Option (List ℕ)
row_name line = name_before (position is_colon (field 0 line)) (field 0 line)

-- a row is that of the card of this name
abbrev pub is_called : List ℕ → Option (ArrayString 15) → Bool
is_called name None = false
is_called name (Some known) = bytes_eq known.bytes name

-- a row is that of this address
abbrev pub has_address : List ℕ → Option (List ℕ) → Bool
has_address address None = false
has_address address (Some known) = bytes_eq known address

-- the first row of a name, and that of an address
abbrev pub of_name : List ℕ → List Card → Option Card
of_name name rows = find (λ card. is_called name card.name) rows

abbrev pub of_address : List ℕ → List Card → Option Card
of_address address rows = find (λ card. has_address address card.address) rows

-- the card of a row is known
abbrev pub is_known : Option (ArrayString 15) → Bool
is_known name = is_some name

-- of more than 64 rows the first
abbrev pub with_row : List Card → Option (ArrayString 15) → Option (List ℕ) → List Card
with_row rows name address = if nat_le 64 (length rows) then rows
    else rows ++ (record { name = name; address = address }) ∷ []

-- a card without an address, where it has no row
abbrev pub with_other : List Card → ArrayString 15 → List Card
with_other rows name = if is_some (of_name name.bytes rows) then rows
    else with_row rows (Some name) None
