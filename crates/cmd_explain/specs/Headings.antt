-- What heads a line of a show text: the nearest line above it that is primary or opens a maker's
-- record. Lists of lines have the last line first.
use Rattle.std.specs.Prelude.{ℕ, Bool, true, false, if◌then◌else◌, List, [], ◌∷◌, Option, Some}
use Rattle.std.specs.Prelude.{None}
use Rattle.ascii_text.specs.Forms.{same_word}
use Rattle.show_line.specs.declared.keyword.Keyword.{Keyword}
use Rattle.show_line.specs.declared.keyword.Keyword.TheVariants as keyword
use Rattle.show_line.specs.declared.statement.Record.{Record}
use Rattle.show_line.specs.declared.statement.Statement.{Statement}
use Rattle.show_line.specs.Keywords.{keyword_of}
use Rattle.show_line.specs.Said.{desk_limits, record_opened}
use Rattle.show_reader.specs.Meaning.{is_skipped}
use Rattle.show_reader.specs.Text.{Words, owns, statement_below}
use Rattle.cmd_explain.specs.declared.heading.Heading.{Heading}
use Rattle.cmd_explain.specs.declared.heading.Heading.TheVariants as heading

-- the keyword of a line; one without words has none that is known
abbrev pub keyword_in : Words → Keyword
keyword_in [] = keyword.Unknown
keyword_in (word ∷ words) = keyword_of word

-- the first word of a line is this one, in small or large letters
abbrev pub begins_with_word : List ℕ → Words → Bool
begins_with_word word [] = false
begins_with_word word (first ∷ words) = same_word first word

-- the words behind it
abbrev pub operands : Words → Words
operands [] = []
operands (word ∷ words) = words

abbrev pub is_maker : Keyword → Bool
is_maker keyword.Maker = true
is_maker _ = false

abbrev pub is_clear : Keyword → Bool
is_clear keyword.Clear = true
is_clear _ = false

-- a line of this keyword is skipped as one that is unknown: no maker's record heads it
abbrev pub is_unknown : Heading → Keyword → Bool
is_unknown heading.Maker k = false
is_unknown h keyword.Unknown = true
is_unknown h k = false

-- a skipped line that may own: it opens a maker's record, or is a CLEAR, or of another page
abbrev pub skipped_heading : Keyword → Heading
skipped_heading k =
    if is_maker k then heading.Maker
    else (if is_clear k then heading.Nothing else heading.OtherPage)

-- a line that may own, by the record that it opens, and whether it is skipped
abbrev pub heading_by : Option Record → Bool → Keyword → Heading
heading_by (Some r) skipped k = heading.Opened r
heading_by None skipped k = if skipped then skipped_heading k else heading.Nothing

-- a line that may own, by its keyword and what it says
abbrev pub heading_of : Keyword → Statement → Heading
heading_of k s = heading_by (record_opened s) (is_skipped s) k

-- the record that owns the lines below
abbrev pub owner_of : Heading → Option Record
owner_of (heading.Opened r) = Some r
owner_of _ = None

-- what heads the line below these
abbrev pub heading_below : List Words → Heading
heading_below [] = heading.Nothing
heading_below (l ∷ above) =
    if owns l then heading_of (keyword_in l) (statement_below desk_limits above l) else
    heading_below above
