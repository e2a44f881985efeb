-- The whole lines of bytes. Lists of lines have the newest first.
use Rattle.std.specs.Prelude.{ℕ, List, ◌-◌, length, take, map}
use Rattle.ascii_text.specs.Lines.{cut_of}

-- so many bytes of a text are in whole lines, their LFs included
abbrev pub whole_length : List ℕ → ℕ
whole_length text = length text - length (cut_of text).rest

-- what is given of a line: its first 201 bytes
abbrev pub front_of : List ℕ → List ℕ
front_of line = take 201 line

-- what is given of the whole lines of a text
abbrev pub line_fronts : List ℕ → List (List ℕ)
line_fronts text = map front_of (cut_of text).lines

-- the whole lines of a text
abbrev pub whole_lines : List ℕ → List ℕ
whole_lines text = take (whole_length text) text
