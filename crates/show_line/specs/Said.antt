-- What a line says, by its keyword, the record that owns it, and the words behind the keyword.
use Rattle.std.specs.Prelude.{ℕ, Bool, true, ◌==◌, if◌then◌else◌, List, [], ◌∷◌, codes, Option}
use Rattle.std.specs.Prelude.{Some, None, Result, Ok, Err}
use Rattle.std.specs.Prelude.{unwrap_or}
use Rattle.std.specs.Option.{option_map_or}
use Rattle.ascii_text.specs.Forms.{same_word, number_of, time_of, cue_number_of}
use Rattle.show_core.specs.declared.cue.CueTime.{CueTime}
use Rattle.show_core.specs.declared.cue.CueTime.TheVariants as cue_time
use Rattle.show_core.specs.declared.rate.Rate.{Rate}
use Rattle.show_line.specs.declared.fault.LineFault.{LineFault}
use Rattle.show_line.specs.declared.fault.LineFault.TheVariants.{MissingNumber}
use Rattle.show_line.specs.declared.fault.LineFault.TheVariants.{Ident as BadIdent}
use Rattle.show_line.specs.declared.keyword.Keyword.{Keyword}
use Rattle.show_line.specs.declared.keyword.Keyword.TheVariants.{Clear, Ident, Cue, Group, Sub}
use Rattle.show_line.specs.declared.keyword.Keyword.TheVariants.{Patch}
use Rattle.show_line.specs.declared.keyword.Keyword.TheVariants.{EndData, Setting, Chan, Up, Down}
use Rattle.show_line.specs.declared.keyword.Keyword.TheVariants.{FollowOn, Remark}
use Rattle.show_line.specs.declared.keyword.Keyword.TheVariants.{Maker, Unknown}
use Rattle.show_line.specs.declared.statement.Record.{Record}
use Rattle.show_line.specs.declared.statement.Record.TheVariants as record_of
use Rattle.show_line.specs.declared.statement.Table.TheVariants as table
use Rattle.show_line.specs.declared.statement.Cleared.{Cleared}
use Rattle.show_line.specs.declared.statement.Cleared.TheVariants.{All, Only}
use Rattle.show_line.specs.declared.line.Reading.{Reading}
use Rattle.show_line.specs.declared.statement.Statement.{Statement}
use Rattle.show_line.specs.declared.statement.Statement.TheVariants.{Opens, Levels, SetsTime}
use Rattle.show_line.specs.declared.statement.Statement.TheVariants.{Patches}
use Rattle.show_line.specs.declared.statement.Statement.TheVariants.{Clears, Quiet, Skipped, Faulty}
use Rattle.show_line.specs.Keywords.{value_for, keyword_of}
use Rattle.show_line.specs.Faults.{lower, number_fault, cue_fault, page_fault, time_fault}
use Rattle.show_line.specs.Faults.{delay_fault}
pub use Rattle.show_line.specs.Pairs.{desk_limits}
use Rattle.show_line.specs.Pairs.{Limits, pair_fault, pairs_in, triple_fault, triples_in}

-- the statement, or the fault where there is one
abbrev pub unless_faulty : Option LineFault → Statement → Statement
unless_faulty fault says = option_map_or Faulty fault says

-- the page is 1 or is not there; a record on another page is foreign
abbrev pub is_page_1 : List (List ℕ) → Bool
is_page_1 [] = true
is_page_1 (page ∷ words) = unwrap_or (number_of page) 0 == 1

-- a record line whose number has this fault, or names this record; a page may be next
abbrev pub on_page : Option LineFault → Record → List (List ℕ) → Statement
on_page fault which words =
    unless_faulty (lower fault (page_fault words))
    (if is_page_1 words then Opens which else Skipped)

-- CUE, GROUP or SUB: a number, whose fault and record these functions give, and perhaps a page
abbrev pub record_said : (List ℕ → Option LineFault) → (List ℕ → Record) → List (List ℕ) → Statement
record_said fault which [] = Faulty MissingNumber
record_said fault which (number ∷ words) = on_page (fault number) (which number) words

-- the cue that a word names
abbrev pub cue_named : List ℕ → Record
cue_named word = record_of.Cue (unwrap_or (cue_number_of word) 0)

-- the group that a word names
abbrev pub group_named : List ℕ → Record
group_named word = record_of.Group (unwrap_or (number_of word) 0)

-- the submaster that a word names
abbrev pub sub_named : List ℕ → Record
sub_named word = record_of.Sub (unwrap_or (number_of word) 0)

-- PATCH: a page, then triples; those of a foreign page are not looked at
abbrev pub patch_said : Limits → List (List ℕ) → Statement
patch_said lim [] = Faulty MissingNumber
patch_said lim (page ∷ words) =
    unless_faulty (page_fault (page ∷ words))
    (if is_page_1 (page ∷ words)
    then unless_faulty (triple_fault lim words) (Patches (triples_in words))
    else Skipped)

-- the lowest fault of the words of UP or DOWN: a time, and perhaps a delay
abbrev pub rate_fault : List (List ℕ) → Option LineFault
rate_fault [] = Some MissingNumber
rate_fault (time ∷ words) = lower (time_fault time) (delay_fault words)

-- the rate that they spell, with no delay where that word is missing
abbrev pub rate_in : List (List ℕ) → Rate
rate_in (time ∷ delay ∷ words) =
    record { time = unwrap_or (time_of time) 0; delay = unwrap_or (time_of delay) 0 }
rate_in (time ∷ []) = record { time = unwrap_or (time_of time) 0; delay = 0 }
rate_in [] = record { time = 0; delay = 0 }

-- the rate, or the fault where there is one
abbrev pub rate_read : List (List ℕ) → Result Rate LineFault
rate_read words = option_map_or Err (rate_fault words) (Ok (rate_in words))

-- the fault of the words of FOLLOWON: a time must be there; words behind it are ignored
abbrev pub follow_fault : List (List ℕ) → Option LineFault
follow_fault [] = Some MissingNumber
follow_fault (time ∷ words) = time_fault time

-- the time that they spell
abbrev pub follow_in : List (List ℕ) → ℕ
follow_in [] = 0
follow_in (time ∷ words) = unwrap_or (time_of time) 0

-- the time, or the fault where there is one
abbrev pub follow_read : List (List ℕ) → Result ℕ LineFault
follow_read words = option_map_or Err (follow_fault words) (Ok (follow_in words))

-- IDENT: the version must be 3:0; words behind it are ignored
abbrev pub ident_said : List (List ℕ) → Statement
ident_said [] = Faulty BadIdent
ident_said (version ∷ words) = if same_word version (codes "3:0") then Quiet else Faulty BadIdent

-- the words that CLEAR knows
abbrev pub cleared_names : List (List ℕ × Cleared)
cleared_names =
    (codes "all", All) ∷ (codes "cue", Only table.Cues) ∷ (codes "cues", Only table.Cues)
    ∷ (codes "group", Only table.Groups) ∷ (codes "groups", Only table.Groups)
    ∷ (codes "sub", Only table.Subs) ∷ (codes "subs", Only table.Subs)
    ∷ (codes "patch", Only table.Patch) ∷ []

-- CLEAR with one word that names tables; else it is skipped
abbrev pub clear_said : List (List ℕ) → Statement
clear_said (what ∷ []) = option_map_or Clears (value_for cleared_names what) Skipped
clear_said _ = Skipped

-- a secondary line: skipped, unless a record owns it
abbrev pub owned_said : Option Record → (Record → Statement) → Statement
owned_said owner says = option_map_or says owner Skipped

-- CHAN of a record
abbrev pub levels_said : Limits → List (List ℕ) → Record → Statement
levels_said lim words which = unless_faulty (pair_fault lim words) (Levels which (pairs_in words))

-- a value as a time of a cue
abbrev pub read_as : {X : Type 0} → (X → CueTime) → Result X LineFault → Result CueTime LineFault
read_as time (Ok x) = Ok (time x)
read_as time (Err fault) = Err fault

-- UP, DOWN and FOLLOWON: the time of a cue that was read, or the fault; they have no effect in a
-- group or a submaster
abbrev pub time_said : Result CueTime LineFault → Record → Statement
time_said (Ok time) (record_of.Cue n) = SetsTime n time
time_said (Err fault) (record_of.Cue n) = Faulty fault
time_said read (record_of.Group n) = Quiet
time_said read (record_of.Sub n) = Quiet

-- what a line says; groups are numbered from 1 to 500, and submasters from 1 to 100
abbrev pub statement_in : Limits → Option Record → Keyword → List (List ℕ) → Statement
statement_in lim owner Clear words = clear_said words
statement_in lim owner Ident words = ident_said words
statement_in lim owner Cue words = record_said cue_fault cue_named words
statement_in lim owner Group words = record_said (number_fault 1 500) group_named words
statement_in lim owner Sub words = record_said (number_fault 1 100) sub_named words
statement_in lim owner Patch words = patch_said lim words
statement_in lim owner EndData words = Quiet
statement_in lim owner Setting words = Quiet
statement_in lim owner Chan words = owned_said owner (levels_said lim words)
statement_in lim owner Up words =
    owned_said owner (time_said (read_as cue_time.Up (rate_read words)))
statement_in lim owner Down words =
    owned_said owner (time_said (read_as cue_time.Down (rate_read words)))
statement_in lim owner FollowOn words =
    owned_said owner (time_said (read_as cue_time.Follow (follow_read words)))
statement_in lim owner Remark words = owned_said owner (λ r. Quiet)
statement_in lim owner Maker words = Skipped
statement_in lim owner Unknown words = Skipped

-- the record that a statement opens
abbrev pub record_opened : Statement → Option Record
record_opened (Opens r) = Some r
record_opened _ = None

-- what is read of a line: its keyword and what it says; nothing where it has no words
abbrev pub line_reading : Limits → Option Record → List (List ℕ) → Option Reading
line_reading lim owner [] = None
line_reading lim owner (word ∷ words) =
    let keyword = keyword_of word in
    Some (record { keyword = keyword; statement = statement_in lim owner keyword words })
