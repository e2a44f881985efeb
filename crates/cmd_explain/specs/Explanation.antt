-- What `explain` prints of a show text.
use Rattle.std.specs.Prelude.{◌≡◌, ◌≤◌, ℕ, List, ◌++◌, All, codes, flat_map, reverse, take}
use Rattle.std.specs.Prelude.{◌⊎◌, Result, Ok, Err}
use Rattle.ascii_text.specs.Text.{lines_of}
use Rattle.cmd_faults.specs.declared.fault.RunFault.{RunFault}
use Rattle.cmd_faults.specs.declared.fault.RunFault.TheVariants as run
use Rattle.devices.specs.Tape.{Tape, with_failure, with_more}
use Rattle.show_core.specs.Tables.{Tables}
use Rattle.show_line.specs.Said.{desk_limits}
use Rattle.show_reader.specs.ItsShow.{OfItsShow}
use Rattle.show_reader.specs.Reading.{lines_read}
use Rattle.cmd_explain.specs.Encoding.{encoding_notes}
use Rattle.cmd_explain.specs.LineNotes.{note_line}
use Rattle.cmd_explain.specs.NotesOf.{line_notes}
use Rattle.cmd_explain.specs.NumberedLines.{numbered_notes}
use Rattle.cmd_explain.specs.ShowNotes.{show_notes}
use Rattle.cmd_explain.specs.Skipped.{skipped_lines}

-- a text of one line: printable ASCII, so without LF
abbrev pub IsOneLine : List ℕ → Type 0
IsOneLine text = All (λ byte. (32 ≤ byte) × (byte ≤ 126)) text

-- a line of a list
abbrev pub text_line : List ℕ → List ℕ
text_line line = line ++ codes "\n"

-- the notes on how a text is encoded, and lines of printable ASCII
abbrev pub AreFaultLines : List ℕ → List ℕ → Type 0
AreFaultLines show text =
    (lines : List (List ℕ)) × All IsOneLine lines
    × (text ≡ encoding_notes show ++ flat_map text_line lines)

-- of so many lines of a text, which means this show: the notes on how the text is encoded; the
-- lines about the skipped lines; the notes on lines that begin with a number; notes of one line
-- each on keywords that may be misspelt; the other notes on lines, and the notes on the show
pub record IsTextOf (text : List ℕ) (count : ℕ) (show : Tables) (told : List ℕ) : Type 0 where
  pub doubts : List (List ℕ)
  pub doubts_in_lines : All IsOneLine doubts
  pub text_is : told ≡ encoding_notes text
      ++ skipped_lines (reverse (take count (lines_of text)))
      ++ numbered_notes (reverse (take count (lines_of text)))
      ++ flat_map note_line doubts
      ++ line_notes show (reverse (take count (lines_of text)))
      ++ show_notes show

-- what `explain` prints of a show text without a fault
abbrev pub IsExplanationOf : List ℕ → List ℕ → Type 0
IsExplanationOf show text =
    OfItsShow show (λ meant. IsTextOf show (lines_read desk_limits show) meant text)

-- a list of faulty lines was written, or that write failed, or there was none
abbrev pub ListsFaults : List ℕ → Tape ℕ → Tape ℕ → Type 0
ListsFaults show before after =
    ((text : List ℕ) × AreFaultLines show text × (after ≡ with_more before text))
    ⊎ ((after ≡ with_failure before) ⊎ (after ≡ before))

-- what `explain` leaves on its output: at Ok such a text and nothing else; at a fault of the show
-- at most a list of faulty lines; at Device one write failed, and at any other fault nothing was
-- written
abbrev pub Explains : {X : Type 0} → List ℕ → Result X RunFault → Tape ℕ → Tape ℕ → Type 0
Explains show (Ok x) before after =
    (text : List ℕ) × IsExplanationOf show text × (after ≡ with_more before text)
Explains show (Err run.Device) before after = after ≡ with_failure before
Explains show (Err (run.Show fault)) before after = ListsFaults show before after
Explains show (Err fault) before after = after ≡ before
