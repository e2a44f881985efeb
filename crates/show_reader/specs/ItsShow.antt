-- The show that a text means to a desk.
use Rattle.std.specs.Prelude.{ℕ, List}
use Rattle.show_core.specs.Tables.{Tables}
use Rattle.show_line.specs.Said.{desk_limits}
use Rattle.show_reader.specs.Text.{statements_of}
use Rattle.show_reader.specs.Shows.{IsShowOf}

-- there is a show that the text means, and this holds of each that it means
abbrev pub OfItsShow : List ℕ → (Tables → Type 0) → Type 0
OfItsShow text P = ((s : Tables) × IsShowOf (statements_of desk_limits text) s)
    × ((s : Tables) → IsShowOf (statements_of desk_limits text) s → P s)
