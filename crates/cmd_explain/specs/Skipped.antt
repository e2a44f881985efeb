-- What is printed of the skipped lines of a show text. Lists of lines have the last line first.
use Rattle.std.specs.Prelude.{ℕ, ◌+◌, ◌==◌, ◌&&◌, ◌||◌, nat_le, if◌then◌else◌, List, [], ◌∷◌, ◌++◌}
use Rattle.std.specs.Prelude.{codes, decimal, length, map, reverse, take}
use Rattle.ascii_text.specs.Text.{lines_of, words_of}
use Rattle.show_line.specs.Said.{desk_limits}
use Rattle.show_reader.specs.Meaning.{is_skipped}
use Rattle.show_reader.specs.Reading.{lines_read}
use Rattle.show_reader.specs.Text.{Words, statement_below}
use Rattle.cmd_explain.specs.declared.reason.Reason.{Reason}
use Rattle.cmd_explain.specs.Reasons.{reason_below, reason_text}

-- a byte as it is shown: a tab and a CR as a space, and what is no printable ASCII as `?`
abbrev pub display_byte : ℕ → ℕ
display_byte byte =
    if (byte == 9) || (byte == 13) then 32
    else (if nat_le 32 byte && nat_le byte 126 then byte else 63)

-- bytes as they are shown
abbrev pub display_text : List ℕ → List ℕ
display_text bytes = map display_byte bytes

-- the line about a skipped line: its number, the reason, and the first 200 bytes of its text
abbrev pub skipped_line : ℕ → Reason → List ℕ → List ℕ
skipped_line number reason line =
    codes "line " ++ decimal number ++ codes ": " ++ reason_text reason ++ codes ": "
    ++ display_text (take 200 line) ++ codes "\n"

-- lines as lists of their words
abbrev pub words_in : List (List ℕ) → List Words
words_in lines = map words_of lines

-- the line about a line below these: nothing where it is not skipped
abbrev pub skipped_line_below : List (List ℕ) → List ℕ → List ℕ
skipped_line_below above line =
    if is_skipped (statement_below desk_limits (words_in above) (words_of line))
    then skipped_line (length above + 1) (reason_below (words_in above) (words_of line)) line
    else []

-- those about the skipped ones of lines
abbrev pub skipped_lines : List (List ℕ) → List ℕ
skipped_lines [] = []
skipped_lines (line ∷ above) = skipped_lines above ++ skipped_line_below above line

-- what is printed of the lines of a show text that are read
abbrev pub skipped_text : List ℕ → List ℕ
skipped_text text = skipped_lines (reverse (take (lines_read desk_limits text) (lines_of text)))
