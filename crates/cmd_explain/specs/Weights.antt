-- What of a show may mean something else than is played: its notes of weight, and its lines of
-- unknown keywords. Lists of lines have the last line first.
use Rattle.std.specs.Prelude.{◌≡◌, ℕ, ◌==◌, ◌++◌, List, count_by, reverse, take}
use Rattle.ascii_text.specs.Text.{lines_of}
use Rattle.show_core.specs.Tables.{Tables}
use Rattle.cmd_explain.specs.declared.weight.Weight.{Weight}
use Rattle.cmd_explain.specs.Encoding.{encoding_notes}
use Rattle.cmd_explain.specs.NotesOf.{unknown_count, weighty_line_notes}

-- how many lines a text has, each with its LF
abbrev pub line_count : List ℕ → ℕ
line_count text = count_by (λ byte. byte == 10) text

-- the weight of so many lines of a text, which means this show: one for each note on its encoding,
-- and on parts of cues, dimmers, links, commas and records of its lines
pub record IsWeightOf (text : List ℕ) (count : ℕ) (show : Tables) (weight : Weight) : Type 0 where
  pub notes : weight.notes ≡ line_count (encoding_notes text
      ++ weighty_line_notes show (reverse (take count (lines_of text))))
  pub unknown_lines : weight.unknown_lines ≡ unknown_count (reverse (take count (lines_of text)))
