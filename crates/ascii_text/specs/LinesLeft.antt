-- What the iterators over lines and words have left.
use Rattle.std.specs.Prelude.{ℕ, List}
use Rattle.ascii_text.specs.declared.text.Lines.{Lines}
use Rattle.ascii_text.specs.declared.text.Line.{Line}
use Rattle.ascii_text.specs.declared.text.Words.{Words}

-- the lines that are left, with their numbers
abbrev pub lines_left : Lines → List (ℕ × List ℕ)
lines_left lines = lines

-- a line as its number and bytes
abbrev pub line_seen : Line → ℕ × List ℕ
line_seen line = (line.number, line.bytes.now)

-- the words that are left
abbrev pub words_left : Words → List (List ℕ)
words_left words = words
