-- The notes on parts of cues: all channels of a cue take its last UP and DOWN, whatever its parts
-- say. Lists of lines and of parts have the last one first.
use Rattle.std.specs.Prelude.{ℕ, ◌+◌, ◌==◌, ◌&&◌, ◌||◌, Bool, if◌then◌else◌}
use Rattle.std.specs.Prelude.{List, [], ◌∷◌, ◌++◌, Option, Some, None, is_some, unwrap_or}
use Rattle.std.specs.Prelude.{option_map, codes, decimal, filter, flat_map, length, map, reverse}
use Rattle.std.specs.Prelude.{take}
use Rattle.std.specs.List.{fold, list_any, range_with_len}
use Rattle.std.specs.Option.{option_or}
use Rattle.std.specs.FinMap as maps
use Rattle.ascii_text.specs.Text.{words_of}
use Rattle.show_core.specs.declared.cue.CueTime.{CueTime}
use Rattle.show_core.specs.declared.cue.CueTime.TheVariants.{Up, Down}
use Rattle.show_core.specs.declared.rate.Rate.{Rate}
use Rattle.show_core.specs.Tables.{Tables}
use Rattle.show_line.specs.declared.statement.Record.TheVariants.{Cue}
use Rattle.show_line.specs.declared.statement.Statement.{Statement}
use Rattle.show_line.specs.declared.statement.Statement.TheVariants.{Opens, Levels, SetsTime}
use Rattle.show_line.specs.declared.statement.Statement.TheVariants.{Clears}
use Rattle.show_line.specs.declared.statement.Table.TheVariants.{Cues}
use Rattle.show_reader.specs.Meaning.{empties}
use Rattle.show_reader.specs.Text.{Words}
use Rattle.cmd_explain.specs.declared.cue_parts.Part.{Part}
use Rattle.cmd_explain.specs.declared.cue_parts.Times.{Times}
use Rattle.cmd_explain.specs.declared.heading.Heading.{Heading}
use Rattle.cmd_explain.specs.declared.heading.Heading.TheVariants as heading
use Rattle.cmd_explain.specs.Decimals.{decimal_text}
use Rattle.cmd_explain.specs.Headings.{begins_with_word, heading_below, operands}
use Rattle.cmd_explain.specs.LineNotes.{note_on, rate_text, desk_statement}
use Rattle.cmd_explain.specs.Skipped.{display_text, words_in}

-- ---- parts

-- a part of a cue: the line that begins it, what stands behind PART, its last UP and its last DOWN,
-- and the channels that its CHAN lines list, each with its level
pub record CuePart : Type 0 where
  pub cue : ℕ
  pub line : ℕ
  pub name : Option (List ℕ)
  pub times : Times
  pub pairs : List (ℕ × ℕ)

abbrev pub no_times : Times
no_times = record { up = None; down = None }

abbrev pub new_part : ℕ → ℕ → Option (List ℕ) → CuePart
new_part n number name =
    record { cue = n; line = number; name = name; times = no_times; pairs = [] }

-- ---- where they begin

-- the cue that a line opens
abbrev pub opened_cue : Statement → Option ℕ
opened_cue (Opens (Cue n)) = Some n
opened_cue _ = None

-- the cue that heads a line
abbrev pub headed_cue : Heading → Option ℕ
headed_cue (heading.Opened (Cue n)) = Some n
headed_cue _ = None

-- the name of a part, by the words behind PART
abbrev pub part_name : Words → List ℕ
part_name [] = codes "?"
part_name (name ∷ words) = name

-- the part that a line begins: a CUE line, or a PART line that a cue heads
abbrev pub part_by : Option ℕ → Option ℕ → ℕ → Words → Option CuePart
part_by (Some n) headed number l = Some (new_part n number None)
part_by None (Some n) number l =
    if begins_with_word (codes "part") l
    then Some (new_part n number (Some (part_name (operands l)))) else None
part_by None None number l = None

abbrev pub part_of_line : Heading → ℕ → Statement → Words → Option CuePart
part_of_line h number s l = part_by (opened_cue s) (headed_cue h) number l

abbrev pub with_part : Option CuePart → List CuePart → List CuePart
with_part (Some p) parts = p ∷ parts
with_part None parts = parts

-- ---- what lines say of the last one

abbrev pub change_last : (CuePart → CuePart) → List CuePart → List CuePart
change_last change [] = []
change_last change (p ∷ parts) = change p ∷ parts

-- a part has no other time of its own
abbrev pub times_with : CueTime → Times → Times
times_with (Up rate) times = record { up = Some rate; down = times.down }
times_with (Down rate) times = record { up = times.up; down = Some rate }
times_with _ times = times

abbrev pub part_with_time : CueTime → CuePart → CuePart
part_with_time time p = record p { times = times_with time p.times }

abbrev pub part_with_pairs : List (ℕ × ℕ) → CuePart → CuePart
part_with_pairs pairs p = record p { pairs = p.pairs ++ pairs }

-- with the levels that a line gives to a cue
abbrev pub parts_with_levels : Statement → List CuePart → List CuePart
parts_with_levels (Levels (Cue n) pairs) parts = change_last (part_with_pairs pairs) parts
parts_with_levels _ parts = parts

-- with its times; or CLEAR empties the cues
abbrev pub parts_with_times : Statement → List CuePart → List CuePart
parts_with_times (SetsTime n time) parts = change_last (part_with_time time) parts
parts_with_times (Clears what) parts = if empties what Cues then [] else parts
parts_with_times _ parts = parts

-- the parts behind a line that says this
abbrev pub parts_after : Statement → List CuePart → List CuePart
parts_after s parts = parts_with_levels s (parts_with_times s parts)

-- the parts of the cues that are there behind lines
abbrev pub parts_below : List (List ℕ) → List CuePart
parts_below [] = []
parts_below (line ∷ above) =
    parts_after (desk_statement above line)
    (with_part (part_of_line (heading_below (words_in above)) (length above + 1)
    (desk_statement above line) (words_of line)) (parts_below above))

-- ---- times

abbrev pub at_once : Rate
at_once = record { time = 0; delay = 0 }

-- how channels rise: by UP, or else by DOWN, or else at once
abbrev pub rise : Times → Rate
rise times = unwrap_or (option_or times.up times.down) at_once

-- how they fall
abbrev pub fall : Times → Rate
fall times = unwrap_or (option_or times.down times.up) at_once

abbrev pub same_rate : Rate → Rate → Bool
same_rate one other = (one.time == other.time) && (one.delay == other.delay)

abbrev pub same_times : Times → Times → Bool
same_times one other = same_rate (rise one) (rise other) && same_rate (fall one) (fall other)

-- times, and others where there are none
abbrev pub times_or : Times → Times → Times
times_or times other =
    record { up = option_or times.up other.up; down = option_or times.down other.down }

-- of the parts of a cue, the first one first: the times of its first part
abbrev pub first_times : List CuePart → Times
first_times [] = no_times
first_times (p ∷ parts) = p.times

-- the last UP and the last DOWN of all
abbrev pub last_times : List CuePart → Times
last_times parts = fold (λ times p. times_or p.times times) no_times parts

-- ---- the notes

abbrev pub part_name_text : Option (List ℕ) → List ℕ
part_name_text (Some name) = codes ", part " ++ display_text (take 200 name)
part_name_text None = codes ", before its parts"

-- the channels from 1 to 4096 that pairs list
unfoldable pub channels_in : List (ℕ × ℕ) → List ℕ
channels_in pairs =
    filter (λ channel. list_any (λ pair. pair.0 == channel) pairs) (range_with_len 1 4096)

abbrev pub channel_word : Bool → List ℕ
channel_word is_one = if is_one then codes "channel" else codes "channels"

abbrev pub take_word : Bool → List ℕ
take_word is_one = if is_one then codes " takes " else codes " take "

abbrev pub channels_text : List ℕ → List ℕ
channels_text channels =
    channel_word (length channels == 1) ++ flat_map (λ n. codes " " ++ decimal n) channels
    ++ take_word (length channels == 1)

abbrev pub moves_text : Option Rate → Option Rate → List ℕ
moves_text (Some up) (Some down) =
    codes "UP " ++ rate_text up ++ codes ", DOWN " ++ rate_text down
moves_text (Some up) None = codes "UP " ++ rate_text up
moves_text None (Some down) = codes "DOWN " ++ rate_text down
moves_text None None = codes "no time"

abbrev pub part_subject : CuePart → List ℕ
part_subject p = codes "cue " ++ decimal_text p.cue ++ part_name_text p.name ++ codes ": "

abbrev pub difference_text : Times → Times → List ℕ
difference_text own times =
    moves_text times.up times.down ++ codes ", not " ++ moves_text own.up own.down

abbrev pub part_text : CuePart → Times → Times → List ℕ
part_text p own times =
    part_subject p ++ channels_text (channels_in p.pairs) ++ difference_text own times

-- the note on a part: it lists channels, and they take other times than its own
abbrev pub part_note : CuePart → Times → Times → List ℕ
part_note p own times =
    if (length p.pairs == 0) || same_times own times then []
    else note_on p.line (part_text p own times)

-- of the parts of a cue, the first one first; a part has the times of the first one where it has
-- none of its own
abbrev pub cue_part_notes : List CuePart → List ℕ
cue_part_notes parts =
    if list_any (λ p. is_some p.name) parts
    then flat_map (λ p. part_note p (times_or p.times (first_times parts)) (last_times parts)) parts
    else []

-- of all parts, the first one first, those of these cues
abbrev pub notes_on_cues : List CuePart → List ℕ → List ℕ
notes_on_cues parts numbers =
    flat_map (λ n. cue_part_notes (filter (λ p. p.cue == n) parts)) numbers

abbrev pub part_notes : Tables → List (List ℕ) → List ℕ
part_notes show lines = notes_on_cues (reverse (parts_below lines)) (maps.keys show.cues)

-- ---- what is kept of lines

abbrev pub part_of : Part → CuePart
part_of part = record {
  cue = part.cue;
  line = part.line;
  name = option_map (λ name. name.items) part.name;
  times = part.times;
  pairs = part.pairs.items;
}

-- parts that are kept, the last one first
abbrev pub newest_first : List Part → List CuePart
newest_first parts = reverse (map part_of parts)
