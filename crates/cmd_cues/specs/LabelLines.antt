-- The lines that say something of labels, in the order of the text.
-- Of use inside the crate: what its public calls answer is said without these.
use Rattle.std.specs.Prelude.{◌≡◌, ℕ, ◌&&◌, if◌then◌else◌, List, [], fold, Option, None, unwrap_or}
use Rattle.std.specs.Option.{option_map_or, option_or}
use Rattle.ascii_text.specs.Text.{is_word}
use Rattle.show_line.specs.declared.statement.Record.{Record}
use Rattle.show_reader.specs.Keys.{table_of}
use Rattle.show_reader.specs.Meaning.{News, Is, Gone, Silent, after, empties, same_record}
use Rattle.cmd_cues.specs.declared.label_line.LabelKind.{LabelKind}
use Rattle.cmd_cues.specs.declared.label_line.LabelKind.TheVariants.{Text, Comment}
use Rattle.cmd_cues.specs.declared.label_line.LabelLine.{LabelLine}
use Rattle.cmd_cues.specs.declared.label_line.LabelLine.TheVariants.{Label, Clear}
use Rattle.cmd_cues.specs.Labels.{last_label}
use Rattle.std.specs.Prelude.{Bool, true, false}

abbrev pub same_kind : LabelKind → LabelKind → Bool
same_kind Text Text = true
same_kind Comment Comment = true
same_kind _ _ = false

-- a label of a kind, where it is for the record, and not empty
abbrev pub label_if : Bool → LabelKind → LabelKind → List ℕ → News (List ℕ)
label_if is_for kind of_kind bytes =
    if same_kind kind of_kind then (if is_for && is_word bytes then Is bytes else Silent)
    else Silent

-- what such a line says of a record's label of a kind
abbrev pub line_news : Record → LabelKind → LabelLine → News (List ℕ)
line_news r kind (Label q of_kind bytes) =
    if same_kind kind of_kind then (if same_record r q then Is bytes.now else Silent) else Silent
line_news r kind (Clear what) = if empties what (table_of r) then Gone else Silent

-- the same of a line that may be there
abbrev pub news_in : Record → LabelKind → Option LabelLine → News (List ℕ)
news_in r kind line = option_map_or (line_news r kind) line Silent

-- the last label of a kind that such lines give to a record
abbrev pub last_label_by : Record → LabelKind → List LabelLine → Option (List ℕ)
last_label_by r kind lines = fold (λ before line. after (line_news r kind line) before) None lines

-- the labels that such lines give to records
abbrev pub label_by : List LabelLine → Record → List ℕ
label_by lines r =
    unwrap_or (option_or (last_label_by r Text lines) (last_label_by r Comment lines)) []

-- each record has the labels of both kinds that lines of a text give to it
abbrev pub AreOf : List (List ℕ) → List LabelLine → Type 0
AreOf lines label_lines =
    (r : Record) (kind : LabelKind) → last_label_by r kind label_lines ≡ last_label r kind lines
