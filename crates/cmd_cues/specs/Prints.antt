-- What `cues` prints of a show text.
use Rattle.std.specs.Prelude.{◌≡◌, ℕ, List}
use Rattle.show_reader.specs.ItsShow.{OfItsShow}
use Rattle.cmd_cues.specs.Json.{json_text}
use Rattle.cmd_cues.specs.Labels.{label_in}
use Rattle.cmd_cues.specs.Table.{table_text}

-- the table of the show that the text means, with the text's labels
abbrev pub IsCueTable : List ℕ → List ℕ → Type 0
IsCueTable show text = OfItsShow show (λ s. text ≡ table_text (label_in show) s)

-- its object
abbrev pub IsCueJson : List ℕ → List ℕ → Type 0
IsCueJson show text = OfItsShow show (λ s. text ≡ json_text (label_in show) s)
