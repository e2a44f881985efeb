-- The notes on the lines of a show text, by kinds.
use Rattle.std.specs.Prelude.{◌≡◌, ◌+◌, ◌++◌, ℕ, List, [], ◌∷◌, if◌then◌else◌}
use Rattle.ascii_text.specs.Text.{words_of}
use Rattle.show_core.specs.Tables.{Tables}
use Rattle.show_line.specs.declared.keyword.Keyword.{Keyword}
use Rattle.show_line.specs.declared.statement.Statement.{Statement}
use Rattle.show_line.specs.declared.statement.Table.{Table}
use Rattle.show_line.specs.declared.statement.Table.TheVariants.{Cues, Groups, Subs}
use Rattle.show_line.specs.Keywords.{keyword_of}
use Rattle.show_reader.specs.Text.{Words}
use Rattle.cmd_explain.specs.declared.heading.Heading.{Heading}
use Rattle.cmd_explain.specs.declared.note_lines.LineNotes.{LineNotes}
use Rattle.cmd_explain.specs.declared.openings.Openings.{Openings}
use Rattle.cmd_explain.specs.CueParts.{newest_first, part_notes, parts_below, parts_after}
use Rattle.cmd_explain.specs.Headings.{heading_below, is_unknown}
use Rattle.cmd_explain.specs.LineNotes.{notes_of_kind, link_note, comma_note, again_note, hour_note}
use Rattle.cmd_explain.specs.LineNotes.{openings, openings_after, again_by, link_note_on}
use Rattle.cmd_explain.specs.LineNotes.{comma_note_on, times_on, hour_by}
use Rattle.cmd_explain.specs.NumberedLines.{AreNumberedOf, IsNumberedTaken}
use Rattle.cmd_explain.specs.PatchNotes.{ArePatchNotesOf, IsPatchTaken, patch_note}
use Rattle.cmd_explain.specs.Skipped.{words_in}

-- the records of a table that lines opened, and the notes on those opened again
pub record AreOpeningsOf (table : Table) (lines : List (List ℕ)) (those : Openings) : Type 0 where
  pub of_table : those.table ≡ table
  pub list : those.list.items ≡ openings table lines
  pub notes : those.notes.items ≡ notes_of_kind (again_note table) lines

-- what a line of this number adds, which says this
pub record IsTaken (number : ℕ) (says : Statement) (old new : Openings) : Type 0 where
  pub of_table : new.table ≡ old.table
  pub list : new.list.items ≡ openings_after old.table number says old.list.items
  pub notes : new.notes.items ≡ old.notes.items ++ again_by old.table number says old.list.items

-- what a line of this number adds, with this keyword, which says this
pub record AreMore (show : Tables) (number : ℕ) (k : Keyword) (says : Statement) (line : List ℕ)
    (old new : LineNotes) : Type 0 where
  pub above : new.above ≡ old.above
  pub numbered
      : IsNumberedTaken old.above number k says (words_of line) old.numbered new.numbered
  pub parts : newest_first new.parts.items ≡ parts_after says (newest_first old.parts.items)
  pub patches : IsPatchTaken number says old.patches new.patches
  pub links : new.links.items
      ≡ old.links.items ++ link_note_on show number old.above (words_of line)
  pub commas : new.commas.items ≡ old.commas.items ++ comma_note_on number (times_on says) line
  pub cues : IsTaken number says old.cues new.cues
  pub subs : IsTaken number says old.subs new.subs
  pub groups : IsTaken number says old.groups new.groups
  pub hours : new.hours.items ≡ old.hours.items ++ hour_by number says
  pub unknown_lines : new.unknown_lines ≡ old.unknown_lines

-- ---- lines of unknown keywords

abbrev pub unknown_in : Heading → Words → ℕ
unknown_in h [] = 0
unknown_in h (word ∷ words) = if is_unknown h (keyword_of word) then 1 else 0

-- how many of some lines are
abbrev pub unknown_count : List (List ℕ) → ℕ
unknown_count [] = 0
unknown_count (line ∷ above) =
    unknown_count above + unknown_in (heading_below (words_in above)) (words_of line)

-- ---- all notes on lines

-- the notes on lines, the last line first, of a text that means this show
pub record AreNotesOf (show : Tables) (lines : List (List ℕ)) (notes : LineNotes) : Type 0 where
  pub heads : notes.above ≡ heading_below (words_in lines)
  pub numbered : AreNumberedOf lines notes.numbered
  pub parts : newest_first notes.parts.items ≡ parts_below lines
  pub patches : ArePatchNotesOf lines notes.patches
  pub links : notes.links.items ≡ notes_of_kind (link_note show) lines
  pub commas : notes.commas.items ≡ notes_of_kind comma_note lines
  pub cues : AreOpeningsOf Cues lines notes.cues
  pub subs : AreOpeningsOf Subs lines notes.subs
  pub groups : AreOpeningsOf Groups lines notes.groups
  pub hours : notes.hours.items ≡ notes_of_kind hour_note lines
  pub unknown_lines : notes.unknown_lines ≡ unknown_count lines

-- those on what single lines say, one kind behind the other
abbrev pub statement_notes : Tables → List (List ℕ) → List ℕ
statement_notes show lines =
    notes_of_kind patch_note lines ++ notes_of_kind (link_note show) lines
    ++ notes_of_kind comma_note lines ++ notes_of_kind (again_note Cues) lines
    ++ notes_of_kind (again_note Subs) lines ++ notes_of_kind (again_note Groups) lines

-- those of weight
abbrev pub weighty_line_notes : Tables → List (List ℕ) → List ℕ
weighty_line_notes show lines = part_notes show lines ++ statement_notes show lines

-- all notes on lines but those on numbered ones
abbrev pub line_notes : Tables → List (List ℕ) → List ℕ
line_notes show lines = weighty_line_notes show lines ++ notes_of_kind hour_note lines
