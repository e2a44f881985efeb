-- The notes on single lines of a show text: what a line says that may mean something else than is
-- played. Each is a fact of the line, of the lines above it, and of the show. Lists of lines have
-- the last line first.
use Rattle.std.specs.Prelude.{ℕ, ◌+◌, Bool, false, not, ◌==◌, ◌&&◌, ◌||◌, nat_lt}
use Rattle.std.specs.Prelude.{if◌then◌else◌, List, [], ◌∷◌, ◌++◌, Option, Some, None, is_some}
use Rattle.std.specs.Prelude.{codes, decimal, length, take}
use Rattle.std.specs.Char.{is_ascii_digit}
use Rattle.std.specs.FinMap as maps
use Rattle.ascii_text.specs.Forms.{cue_number_of}
use Rattle.ascii_text.specs.Text.{words_of}
use Rattle.show_core.specs.declared.cue.CueTime.TheVariants.{Up, Down, Follow}
use Rattle.show_core.specs.declared.rate.Rate.{Rate}
use Rattle.show_core.specs.Readers.{cue_above}
use Rattle.show_core.specs.Tables.{Tables}
use Rattle.show_line.specs.declared.statement.Record.{Record}
use Rattle.show_line.specs.declared.statement.Record.TheVariants.{Cue, Group, Sub}
use Rattle.show_line.specs.declared.statement.Statement.{Statement}
use Rattle.show_line.specs.declared.statement.Statement.TheVariants.{Opens, SetsTime}
use Rattle.show_line.specs.declared.statement.Statement.TheVariants.{Clears}
use Rattle.show_line.specs.declared.statement.Table.{Table}
use Rattle.show_line.specs.Said.{desk_limits}
use Rattle.show_reader.specs.Keys.{table_of}
use Rattle.show_reader.specs.Meaning.{empties, same_record, same_table}
use Rattle.show_reader.specs.Text.{Words, statement_below}
use Rattle.cmd_explain.specs.declared.heading.Heading.{Heading}
use Rattle.cmd_explain.specs.declared.heading.Heading.TheVariants as heading
use Rattle.cmd_explain.specs.declared.line_notes.LineTimes.{LineTimes}
use Rattle.cmd_explain.specs.declared.openings.Opening.{Opening}
use Rattle.cmd_explain.specs.Decimals.{decimal_text}
use Rattle.cmd_explain.specs.Headings.{begins_with_word, heading_below, operands}
use Rattle.cmd_explain.specs.Skipped.{display_text, words_in}

-- a kind of note: what it says of a line below others, if anything
abbrev pub NoteKind : Type 0
NoteKind = List (List ℕ) → List ℕ → List ℕ

-- the notes of a kind on lines, in their order
abbrev pub notes_of_kind : NoteKind → List (List ℕ) → List ℕ
notes_of_kind kind [] = []
notes_of_kind kind (line ∷ above) = notes_of_kind kind above ++ kind above line

-- what a line says below others
abbrev pub desk_statement : List (List ℕ) → List ℕ → Statement
desk_statement above line = statement_below desk_limits (words_in above) (words_of line)

-- a note for the author of the show
abbrev pub note_line : List ℕ → List ℕ
note_line note = codes "note: " ++ note ++ codes "\n"

-- one on the line of this number
abbrev pub note_on : ℕ → List ℕ → List ℕ
note_on number text = codes "note: line " ++ decimal number ++ codes ": " ++ text ++ codes "\n"

-- ---- LINK

-- the cue that its second word names
abbrev pub link_target : Words → Option ℕ
link_target [] = None
link_target (word ∷ words) = cue_number_of word

-- GO goes to the cue that is linked to
abbrev pub is_followed : Option ℕ → Option ℕ → Bool
is_followed (Some to) (Some next) = to == next
is_followed _ _ = false

-- where GO goes
abbrev pub way_text : Option ℕ → List ℕ
way_text (Some next) = codes "to " ++ decimal_text next
way_text None = codes "nowhere"

abbrev pub unfollowed_text : ℕ → List ℕ
unfollowed_text to = codes "LINK " ++ decimal_text to ++ codes " is not followed: GO goes "

-- a link to a cue, where GO goes to that cue
abbrev pub link_text : Option ℕ → Option ℕ → List ℕ
link_text (Some to) next = unfollowed_text to ++ way_text next
link_text None next = codes "LINK without a cue number"

abbrev pub cue_link_text : ℕ → Option ℕ → Option ℕ → List ℕ
cue_link_text n to next = codes "cue " ++ decimal_text n ++ codes ": " ++ link_text to next

-- a link of a cue to another one than comes next
abbrev pub link_by : ℕ → ℕ → Option ℕ → Option ℕ → List ℕ
link_by number n to next =
    if is_followed to next then [] else note_on number (cue_link_text n to next)

-- a LINK line of a cue of the show
abbrev pub link_note_on : Tables → ℕ → Heading → Words → List ℕ
link_note_on show number (heading.Opened (Cue n)) words =
    if begins_with_word (codes "link") words && is_some (maps.get show.cues n)
    then link_by number n (link_target (operands words)) (cue_above show.cues n)
    else []
link_note_on show number _ words = []

abbrev pub link_note : Tables → NoteKind
link_note show above line =
    link_note_on show (length above + 1) (heading_below (words_in above)) (words_of line)

-- ---- a comma for a point

-- a comma between two digits
abbrev pub is_decimal : ℕ → ℕ → ℕ → Bool
is_decimal a b c = is_ascii_digit a && (b == 44) && is_ascii_digit c

-- such a comma stands before a comment
abbrev pub has_decimal_comma : List ℕ → Bool
has_decimal_comma (a ∷ b ∷ c ∷ rest) =
    if a == 33 then false
    else (is_decimal a b c || has_decimal_comma (b ∷ c ∷ rest))
has_decimal_comma _ = false

-- the times that UP, DOWN or FOLLOWON gives to a cue; another line gives none
abbrev pub times_on : Statement → Option LineTimes
times_on (SetsTime n (Up rate)) = Some (record { time = rate.time; delay = Some rate.delay })
times_on (SetsTime n (Down rate)) = Some (record { time = rate.time; delay = Some rate.delay })
times_on (SetsTime n (Follow time)) = Some (record { time = time; delay = None })
times_on _ = None

abbrev pub delay_text : Option ℕ → List ℕ
delay_text (Some delay) = codes ", delay " ++ decimal_text delay
delay_text None = []

abbrev pub times_text : LineTimes → List ℕ
times_text times = codes "time " ++ decimal_text times.time ++ delay_text times.delay

-- a comma in the times of a cue
abbrev pub comma_text : List ℕ → LineTimes → List ℕ
comma_text line times =
    display_text (take 200 line) ++ codes ": the comma parts two words: " ++ times_text times
    ++ codes "; write a point for a decimal"

abbrev pub comma_note_on : ℕ → Option LineTimes → List ℕ → List ℕ
comma_note_on number (Some times) line =
    if has_decimal_comma line then note_on number (comma_text line times) else []
comma_note_on number None line = []

abbrev pub comma_note : NoteKind
comma_note above line =
    comma_note_on (length above + 1) (times_on (desk_statement above line)) line

-- ---- a move of more than an hour

abbrev pub rate_text : Rate → List ℕ
rate_text rate =
    decimal_text rate.time
    ++ (if rate.delay == 0 then [] else codes " " ++ decimal_text rate.delay)

abbrev pub hour_text : ℕ → List ℕ → Rate → List ℕ
hour_text n word rate =
    codes "cue " ++ decimal_text n ++ codes ": " ++ word ++ rate_text rate
    ++ codes " lasts more than an hour"

-- more than an hour passes until channels of a cue that move by this rate are there
abbrev pub hour_note_on : ℕ → ℕ → List ℕ → Rate → List ℕ
hour_note_on number n word rate =
    if nat_lt 3600000 (rate.time + rate.delay)
    then note_on number (hour_text n word rate)
    else []

abbrev pub hour_by : ℕ → Statement → List ℕ
hour_by number (SetsTime n (Up rate)) = hour_note_on number n (codes "UP ") rate
hour_by number (SetsTime n (Down rate)) = hour_note_on number n (codes "DOWN ") rate
hour_by number _ = []

abbrev pub hour_note : NoteKind
hour_note above line = hour_by (length above + 1) (desk_statement above line)

-- ---- a record that is opened again

-- the line that opened a record first
abbrev pub opening_line : Record → List Opening → Option ℕ
opening_line r [] = None
opening_line r (o ∷ os) = if same_record r o.which then Some o.line else opening_line r os

-- the records of a table that are there behind a line of this number, which says this, each with
-- the line that opened it first
abbrev pub openings_after : Table → ℕ → Statement → List Opening → List Opening
openings_after table number (Opens r) os =
    if same_table (table_of r) table && not (is_some (opening_line r os))
    then os ++ record { which = r; line = number } ∷ [] else os
openings_after table number (Clears what) os = if empties what table then [] else os
openings_after table number _ os = os

abbrev pub openings : Table → List (List ℕ) → List Opening
openings table [] = []
openings table (line ∷ above) =
    openings_after table (length above + 1) (desk_statement above line) (openings table above)

abbrev pub record_text : Record → List ℕ
record_text (Cue n) = codes "cue " ++ decimal_text n
record_text (Group n) = codes "group " ++ decimal n
record_text (Sub n) = codes "submaster " ++ decimal n

abbrev pub again_text : Record → ℕ → List ℕ
again_text r first =
    record_text r ++ codes " is opened again, as on line " ++ decimal first
    ++ codes ": their lines count together"

-- a line opens a record that was opened on a line above it
abbrev pub again_note_on : ℕ → Record → Option ℕ → List ℕ
again_note_on number r (Some first) = note_on number (again_text r first)
again_note_on number r None = []

abbrev pub again_by : Table → ℕ → Statement → List Opening → List ℕ
again_by table number (Opens r) os =
    if same_table (table_of r) table then again_note_on number r (opening_line r os) else []
again_by table number _ os = []

abbrev pub again_note : Table → NoteKind
again_note table above line =
    again_by table (length above + 1) (desk_statement above line) (openings table above)
