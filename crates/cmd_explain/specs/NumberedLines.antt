-- The notes on lines that begin with a number: they stand below a PATCH or CHAN line as if it went
-- on with them, and are skipped. Lists of lines have the last line first.
use Rattle.std.specs.Prelude.{◌≡◌, ℕ, ◌+◌, ◌==◌, ◌&&◌, ◌||◌, Bool, true, false, not, if◌then◌else◌}
use Rattle.std.specs.Prelude.{List, [], ◌∷◌, ◌++◌, Option, Some, None, is_some, codes, decimal}
use Rattle.std.specs.Prelude.{flat_map, length}
use Rattle.ascii_text.specs.Forms.{number_of}
use Rattle.ascii_text.specs.Text.{words_of}
use Rattle.show_line.specs.declared.keyword.Keyword.{Keyword}
use Rattle.show_line.specs.declared.keyword.Keyword.TheVariants as keyword
use Rattle.show_line.specs.declared.statement.Statement.{Statement}
use Rattle.show_reader.specs.Meaning.{is_skipped}
use Rattle.show_reader.specs.Text.{Words}
use Rattle.cmd_explain.specs.declared.heading.Heading.{Heading}
use Rattle.cmd_explain.specs.declared.numbered_lines.ListLine.{ListLine}
use Rattle.cmd_explain.specs.declared.numbered_lines.NumberedLines.{NumberedLines}
use Rattle.cmd_explain.specs.Headings.{heading_below, is_unknown, keyword_in}
use Rattle.cmd_explain.specs.LineNotes.{NoteKind, desk_statement, note_line, notes_of_kind}
use Rattle.cmd_explain.specs.Skipped.{words_in}

-- ---- one line

abbrev pub is_patch : Keyword → Bool
is_patch keyword.Patch = true
is_patch _ = false

abbrev pub is_chan : Keyword → Bool
is_chan keyword.Chan = true
is_chan _ = false

-- what the lines below may go on with: a PATCH or CHAN line that counts, here of this number
abbrev pub list_of : ℕ → Keyword → Statement → Option ListLine
list_of number k s =
    if (is_patch k || is_chan k) && not (is_skipped s)
    then Some (record { is_patch = is_patch k; line = number }) else None

abbrev pub begins_with_number : Words → Bool
begins_with_number [] = false
begins_with_number (word ∷ words) = is_some (number_of word)

-- a numbered line: it begins with a number, and is skipped as one of an unknown keyword
abbrev pub is_numbered : Heading → Keyword → Words → Bool
is_numbered h k l = is_unknown h k && begins_with_number l

abbrev pub has_no_words : Words → Bool
has_no_words [] = true
has_no_words (word ∷ words) = false

-- ---- the lines above

-- behind a line with words, which a numbered line only follows
abbrev pub list_after : Heading → ℕ → Keyword → Statement → Words → Option ListLine
    → Option ListLine
list_after h number k s l list = if is_numbered h k l then list else list_of number k s

-- what numbered lines below these go on with: the nearest line that is neither blank nor numbered
abbrev pub list_above : List (List ℕ) → Option ListLine
list_above [] = None
list_above (line ∷ above) =
    if has_no_words (words_of line) then list_above above
    else list_after (heading_below (words_in above)) (length above + 1)
    (keyword_in (words_of line)) (desk_statement above line) (words_of line) (list_above above)

abbrev pub numbers_after : Heading → ℕ → Keyword → Words → List ℕ → List ℕ
numbers_after h number k l numbers = if is_numbered h k l then numbers ++ number ∷ [] else []

-- the numbers of the numbered lines between that line and the end of these
abbrev pub numbers_above : List (List ℕ) → List ℕ
numbers_above [] = []
numbers_above (line ∷ above) =
    if has_no_words (words_of line) then numbers_above above
    else numbers_after (heading_below (words_in above)) (length above + 1)
    (keyword_in (words_of line)) (words_of line) (numbers_above above)

-- ---- the notes

abbrev pub subject_word : Bool → List ℕ
subject_word is_one = if is_one then codes "line" else codes "lines"

-- numbers of lines, as a note begins with them
abbrev pub subject_text : List ℕ → List ℕ
subject_text numbers =
    subject_word (length numbers == 1) ++ flat_map (λ n. codes " " ++ decimal n) numbers

abbrev pub advice_text : Bool → List ℕ
advice_text is_one =
    if is_one then codes ": skipped, as it begins with a number: join it to the "
    else codes ": skipped, as they begin with a number: join them to the "

abbrev pub list_text : ListLine → List ℕ
list_text list =
    (if list.is_patch then codes "PATCH" else codes "CHAN") ++ codes " line " ++ decimal list.line

abbrev pub run_text : ListLine → List ℕ → List ℕ
run_text list numbers =
    subject_text numbers ++ advice_text (length numbers == 1) ++ list_text list

-- the note on numbered lines that stand below a PATCH or CHAN line
abbrev pub note_on_run : Option ListLine → List ℕ → List ℕ
note_on_run (Some list) numbers =
    if length numbers == 0 then [] else note_line (run_text list numbers)
note_on_run None numbers = []

-- a line with words tells of those above it, unless it is one more
abbrev pub run_by : Heading → Keyword → Words → Option ListLine → List ℕ → List ℕ
run_by h k l list numbers = if is_numbered h k l then [] else note_on_run list numbers

abbrev pub run_note : NoteKind
run_note above line =
    if has_no_words (words_of line) then []
    else run_by (heading_below (words_in above)) (keyword_in (words_of line)) (words_of line)
    (list_above above) (numbers_above above)

-- all of them; those that end a text are told of last
abbrev pub numbered_notes : List (List ℕ) → List ℕ
numbered_notes lines =
    notes_of_kind run_note lines ++ note_on_run (list_above lines) (numbers_above lines)

-- ---- what is kept of lines

pub record AreNumberedOf (lines : List (List ℕ)) (those : NumberedLines) : Type 0 where
  pub list : those.list ≡ list_above lines
  pub numbers : those.numbers.items ≡ numbers_above lines
  pub notes : those.notes.items ≡ notes_of_kind run_note lines

-- what a line of this number adds, with this keyword and these words, which this heads
pub record IsNumberedTaken (above : Heading) (number : ℕ) (k : Keyword) (says : Statement)
    (l : Words) (old new : NumberedLines) : Type 0 where
  pub list : new.list ≡ list_after above number k says l old.list
  pub numbers : new.numbers.items ≡ numbers_after above number k l old.numbers.items
  pub notes : new.notes.items ≡ old.notes.items ++ run_by above k l old.list old.numbers.items
