-- The rows of the system's table of neighbors, as they are read one by one.
use Rattle.std.specs.Prelude.{◌≡◌, ℕ, List, ◌∷◌, ◌++◌, Option, Some, None, All, ⊤}
use Rattle.byte_reading.specs.ShortLines.{short_lines}
use Rattle.network_tables.specs.Neighbors.{IsNeighbor}
use Rattle.network_tables.specs.declared.neighbor.Neighbor.{Neighbor}

-- a line is no neighbor's, as the heading
abbrev pub IsNoNeighbor : List ℕ → Type 0
IsNoNeighbor line = (neighbor : Neighbor) → IsNeighbor line neighbor → ⊥

-- the next row of what is left of a table: the lines before it are no neighbor's; what stands
-- behind it is left then
abbrev pub IsNextNeighbor : Option (List ℕ) → Option (List ℕ) → Neighbor → Type 0
IsNextNeighbor None new neighbor = ⊤
IsNextNeighbor (Some text) None neighbor = ⊥
IsNextNeighbor (Some text) (Some rest) neighbor = (passed : List (List ℕ)) × (line : List ℕ)
    × (short_lines text ≡ passed ++ line ∷ short_lines rest)
    × All IsNoNeighbor passed × IsNeighbor line neighbor
