-- What is told of records and of the end at the start of a night.
use Rattle.std.specs.Prelude.{ℕ, Bool, if◌then◌else◌, List, [], ◌++◌, codes, decimal}
use Rattle.std.specs.Prelude.{Option, Some, None}
use Rattle.uuid.specs.Text.{hyphenated_text, lower}
use Rattle.console.specs.CueLine.{cue_text}
use Rattle.night_lines.specs.Clock.{clock_text}
use Rattle.night_lines.specs.declared.place.Place.{Place}
use Rattle.night_lines.specs.declared.record.Recording.{Recording}
use Rattle.night_lines.specs.declared.follow.MainNight.{MainNight}

-- the current cue of a night, where it has one
abbrev pub cue_words : Option ℕ → List ℕ
cue_words None = codes "before its first cue"
cue_words (Some cue) = codes "cue " ++ cue_text cue

-- where a night is: its moment, and its cue
abbrev pub place_text : Place → List ℕ
place_text place = clock_text place.moment ++ codes " of the night, " ++ cue_words place.cue

-- whether a night goes on in its record, or begins in one in which a night could go on
abbrev pub beginning_text : Option Place → Bool → List ℕ
beginning_text (Some place) resumes = codes ", goes on at " ++ place_text place
beginning_text None resumes = if resumes then codes " is new" else []

-- what became of a last line that was cut
abbrev pub cut_text : Bool → List ℕ
cut_text is_cut = if is_cut then codes "; its last line was cut, and is dropped" else []

-- where a night is recorded
abbrev pub record_line : Recording → List ℕ
record_line recording =
    codes "record: " ++ recording.file.now ++ beginning_text recording.place recording.resumes
    ++ cut_text recording.is_cut ++ codes "\n"

-- that a night is not recorded
abbrev pub no_record_line : List ℕ
no_record_line = codes "record: none; --record FILE keeps one\n"

-- the main that a night follows, and where it is
abbrev pub main_line : MainNight → List ℕ
main_line main =
    codes "follows: " ++ main.file.now ++ codes ", of CID " ++ hyphenated_text lower main.cid
    ++ codes ", priority " ++ decimal main.priority ++ codes ", at " ++ place_text main.place
    ++ codes "\n"

-- how a following ends
abbrev pub take_line : List ℕ
take_line = codes
    "the main leads; take ends the following, and then go, back and end count here\n"

-- what ends a night, by whether control-C does
abbrev pub ending_line : Bool → List ℕ
ending_line is_interruptible =
    codes "end ends the night, leave leaves the light to others"
    ++ (if is_interruptible then [] else codes "; control-C does nothing") ++ codes "\n"

-- that the input ended, and the night goes on
abbrev pub input_ended_line : List ℕ
input_ended_line = codes "input ended: the light holds; "
    ++ codes "SIGTERM to the program ends the night (--end-with-input ends it with its input)\n"

-- an end of the input that was typed ends nothing
abbrev pub typed_end_line : List ℕ
typed_end_line = codes "type end to end the night\n"
