-- The cards that may have an address which the system does not tell.
use Rattle.std.specs.Prelude.{ℕ, ◌+◌, List, [], ◌∷◌, ◌++◌, codes, length, min, nat_le}
use Rattle.std.specs.Prelude.{Option, Some, None, if◌then◌else◌}
use Rattle.arrayvec.specs.declared.array_string.ArrayString.{ArrayString}
use Rattle.network_tables.specs.declared.card.CardState.{CardState}
use Rattle.network_tables.specs.declared.card.CardState.TheVariants.{Down}

-- a card in this state, whose row has this name and this address: one that is down, and has no
-- address that is known
abbrev pub hidden_name : Option (ArrayString 15) → Option (List ℕ) → CardState → Option (List ℕ)
hidden_name (Some name) None Down = Some name.bytes
hidden_name name address state = None

-- a name behind others, with a comma between
abbrev pub behind_names : List ℕ → List ℕ → List ℕ
behind_names [] name = name
behind_names (byte ∷ bytes) name = (byte ∷ bytes) ++ codes ", " ++ name

-- where that has no room, it is left out
abbrev pub behind_if_room : List ℕ → List ℕ → List ℕ
behind_if_room names name =
    if nat_le (length (behind_names names name)) 160 then behind_names names name else names

abbrev pub names_with : List ℕ → Option (List ℕ) → List ℕ
names_with names None = names
names_with names (Some name) = behind_if_room names name

-- and is counted all the same
abbrev pub count_with : ℕ → Option (List ℕ) → ℕ
count_with count None = count
count_with count (Some name) = min (count + 1) 18446744073709551615
