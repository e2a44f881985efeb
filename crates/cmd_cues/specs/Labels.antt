-- The label of a record of a show text. Lists of lines have the last line first.
use Rattle.std.specs.Prelude.{ℕ, ◌-◌, Bool, false, ◌==◌, ◌&&◌, ◌||◌, if◌then◌else◌, List, [], ◌∷◌}
use Rattle.std.specs.Prelude.{codes, drop, length, reverse, take, Option, Some, None, unwrap_or}
use Rattle.std.specs.List.{after_first, before_first, prefix_len, suffix_len}
use Rattle.std.specs.Option.{option_map_or, option_or}
use Rattle.ascii_text.specs.Text.{is_bang, is_separator, is_word, lines_of, words_of}
use Rattle.show_line.specs.declared.statement.Record.{Record}
use Rattle.show_line.specs.declared.statement.Statement.{Statement}
use Rattle.show_line.specs.declared.statement.Statement.TheVariants.{Opens, Clears, Quiet}
use Rattle.show_line.specs.declared.statement.Table.{Table}
use Rattle.show_line.specs.Said.{desk_limits}
use Rattle.show_reader.specs.Keys.{table_of}
use Rattle.show_reader.specs.Meaning.{News, Is, Gone, Silent, after, empties, same_record}
use Rattle.show_reader.specs.Reading.{lines_read}
use Rattle.show_reader.specs.Text.{Words, owner_below, statement_below}
use Rattle.cmd_explain.specs.Headings.{begins_with_word}
use Rattle.cmd_explain.specs.Skipped.{words_in}
use Rattle.cmd_cues.specs.declared.label_line.LabelKind.{LabelKind}
use Rattle.cmd_cues.specs.declared.label_line.LabelKind.TheVariants.{Text, Comment}

-- ---- the text of a line that may be a label

-- no label begins or ends with a separator or a quotation mark
abbrev pub is_edge : ℕ → Bool
is_edge b = is_separator b || (b == 34)

-- without those at the front, and without those at the end
abbrev pub without_front : List ℕ → List ℕ
without_front bytes = drop (prefix_len is_edge bytes) bytes

abbrev pub without_end : List ℕ → List ℕ
without_end bytes = take (length bytes - suffix_len is_edge bytes) bytes

abbrev pub inner : List ℕ → List ℕ
inner bytes = without_end (without_front bytes)

-- the label of a line: that of a TEXT line stands behind its first word, and ends before a comment;
-- that of a CUE, SUB or GROUP line is its comment
abbrev pub label_part : LabelKind → List ℕ → List ℕ
label_part Text line = inner (after_first is_separator (inner (before_first is_bang line)))
label_part Comment line = inner (after_first is_bang line)

-- ---- what a line says of labels

-- the record that a line may label, by what it says and the record that owns it: a CUE, SUB or
-- GROUP line the one that it opens, and a TEXT line its owner
abbrev pub record_to_label : LabelKind → Option Record → Statement → Words → Option Record
record_to_label Comment owner (Opens r) l = Some r
record_to_label Text owner Quiet l = if begins_with_word (codes "text") l then owner else None
record_to_label _ owner s l = None

-- it may label this record
abbrev pub names : Record → Option Record → Bool
names r named = option_map_or (λ q. same_record r q) named false

-- it is a CLEAR that empties the table
abbrev pub clears : Table → Statement → Bool
clears table (Clears what) = empties what table
clears table _ = false

-- what a line says of a record's label of a kind, by the record that owns the line and by what the
-- line says: CLEAR takes the label away with the record; an empty one is none
abbrev pub label_news_of : Record → LabelKind → Option Record → Statement → List ℕ → News (List ℕ)
label_news_of r kind owner s line =
    if clears (table_of r) s then Gone
    else (if names r (record_to_label kind owner s (words_of line))
    && is_word (label_part kind line)
    then Is (label_part kind line)
    else Silent)

-- the same of a line below others
abbrev pub label_news : Record → LabelKind → List (List ℕ) → List ℕ → News (List ℕ)
label_news r kind above line =
    label_news_of r kind (owner_below desk_limits (words_in above))
    (statement_below desk_limits (words_in above) (words_of line)) line

-- ---- the label

-- the last label of a kind that lines give to a record
abbrev pub last_label : Record → LabelKind → List (List ℕ) → Option (List ℕ)
last_label r kind [] = None
last_label r kind (line ∷ above) = after (label_news r kind above line) (last_label r kind above)

-- the label of a record: that of its last TEXT line, else its last comment, else it is empty
abbrev pub label_after : List (List ℕ) → Record → List ℕ
label_after lines r =
    unwrap_or (option_or (last_label r Text lines) (last_label r Comment lines)) []

-- that of a record of a show text
abbrev pub label_in : List ℕ → Record → List ℕ
label_in text r = label_after (reverse (take (lines_read desk_limits text) (lines_of text))) r
