-- How messages name hosts and cards.
use Rattle.std.specs.Prelude.{ℕ, List, ◌++◌, codes, decimal, slice_index}

-- a host by its address: four numbers, with dots between them
abbrev pub host_text : List ℕ → List ℕ
host_text host =
    decimal (slice_index host 0) ++ codes "." ++ decimal (slice_index host 1) ++ codes "."
    ++ decimal (slice_index host 2) ++ codes "." ++ decimal (slice_index host 3)

-- a card by its name, and its address in parentheses
abbrev pub card_text : List ℕ → List ℕ → List ℕ
card_text name address = name ++ codes " (" ++ host_text address ++ codes ")"
