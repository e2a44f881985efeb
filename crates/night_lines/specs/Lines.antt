-- Lines that are to be told.
use Rattle.std.specs.Prelude.{ℕ, List, map}
use Rattle.night_lines.specs.declared.lines.Line.{Line}
use Rattle.night_lines.specs.declared.lines.Lines.{Lines}

-- the text of one
abbrev pub line_text : Line → List ℕ
line_text line = line.bytes.items

-- those of all, in their order
abbrev pub lines_of : Lines → List (List ℕ)
lines_of lines = map line_text lines.lines.items
