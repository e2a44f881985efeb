-- The rows of a table of neighbors, one line after the other.
use Rattle.std.proofs.Common.{◌∙◌, ℕ, List, [], ◌∷◌, ◌++◌, Option, Some, None, All}
use Rattle.std.proofs.Common.{append_assoc}
use Rattle.std.proofs.lemmas.List.Elements.{All-append, All-cons, All-nil}
use Rattle.byte_reading.specs.ShortLines.{short_lines}
use Rattle.byte_reading.proofs.ReadLines.{ReadTo}
use Rattle.network_tables.specs.NeighborRows.{IsNextNeighbor, IsNoNeighbor}
use Rattle.network_tables.specs.Neighbors.{IsNeighbor}
use Rattle.network_tables.specs.declared.neighbor.Neighbor.{Neighbor}

pub none_yet : All IsNoNeighbor []
none_yet = All-nil IsNoNeighbor

pub none_more : (lines : List (List ℕ)) (line : List ℕ) → All IsNoNeighbor lines
    → IsNoNeighbor line → All IsNoNeighbor (lines ++ line ∷ [])
none_more lines line none other = All-append IsNoNeighbor lines (line ∷ []) none
    (All-cons IsNoNeighbor line [] other (All-nil IsNoNeighbor))

pub neighbor_read : (old new : Option (List ℕ)) (lines : List (List ℕ)) (line : List ℕ) (n : ℕ)
    (neighbor : Neighbor) → ReadTo old new (lines ++ line ∷ []) n → All IsNoNeighbor lines
    → IsNeighbor line neighbor → IsNextNeighbor old new neighbor
neighbor_read None new lines line n neighbor read none is = tt
neighbor_read (Some text) None lines line n neighbor read none is = absurd read
neighbor_read (Some text) (Some rest) lines line n neighbor read none is = (
  lines,
  line,
  read.whole ∙ append_assoc lines (line ∷ []) (short_lines rest),
  none,
  is,
)
