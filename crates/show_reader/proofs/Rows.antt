-- What whole texts mean, evaluated.
use Rattle.std.specs.Prelude.{◌≡◌, ℕ, Bool, true, false, not, ◌&&◌, if◌then◌else◌, List, [], ◌∷◌}
use Rattle.std.specs.Prelude.{◌++◌, codes, flat_map, map, Option, Some, None, refl}
use Rattle.show_line.specs.declared.fault.LineFault.TheVariants as line_fault
use Rattle.show_line.specs.declared.statement.Record.TheVariants.{Cue, Group}
use Rattle.show_line.specs.declared.statement.Statement.{Statement}
use Rattle.show_line.specs.declared.statement.Statement.TheVariants.{Opens}
use Rattle.show_line.specs.Said.{desk_limits}
use Rattle.show_reader.specs.declared.fault.ShowFault.{ShowFault}
use Rattle.show_reader.specs.declared.fault.ShowFault.TheVariants.{Ident, MissingNumber, BadNumber}
use Rattle.show_reader.specs.declared.fault.ShowFault.TheVariants.{BadLevel, BadTime, HalfPair}
use Rattle.show_reader.specs.declared.fault.ShowFault.TheVariants.{HalfTriple, Limit}
use Rattle.show_reader.specs.Text.{statements_of}
use Rattle.show_reader.specs.Keys.{Level, Time, Dimmer}
use Rattle.show_core.specs.Cues.{UpTime, DownTime, FollowTime}
use Rattle.show_reader.specs.Meaning.{is_record_there, meaning, cue_count}
use Rattle.show_reader.specs.Reading.{fault_below, text_fault, lines_read, lines_skipped, grows}
use Rattle.show_reader.specs.Reading.{faultless_front}

-- lines that end in LF, and in CR LF
abbrev text_of : List (List ℕ) → List ℕ
text_of lines = flat_map (λ line. line ++ 10 ∷ []) lines

abbrev carriage_text_of : List (List ℕ) → List ℕ
carriage_text_of lines = flat_map (λ line. line ++ 13 ∷ 10 ∷ []) lines

-- the fault of a text of one, two and three lines
abbrev fault_1 : List ℕ → Option ShowFault
fault_1 a = text_fault desk_limits (text_of (a ∷ []))

abbrev fault_2 : List ℕ → List ℕ → Option ShowFault
fault_2 a b = text_fault desk_limits (text_of (a ∷ b ∷ []))

abbrev fault_3 : List ℕ → List ℕ → List ℕ → Option ShowFault
fault_3 a b c = text_fault desk_limits (text_of (a ∷ b ∷ c ∷ []))

-- how many lines of such a text are skipped
abbrev skipped_1 : List ℕ → ℕ
skipped_1 a = lines_skipped desk_limits (text_of (a ∷ []))

abbrev skipped_3 : List ℕ → List ℕ → List ℕ → ℕ
skipped_3 a b c = lines_skipped desk_limits (text_of (a ∷ b ∷ c ∷ []))

-- ---- faults

show_faults : (fault_2 (codes "CUE 1") (codes "CHAN 1@101") ≡ Some (BadLevel 2))
    × (fault_2 (codes "CUE 1") (codes "CHAN 1") ≡ Some (HalfPair 2))
    × (fault_2 (codes "CUE 1") (codes "UP 1:60") ≡ Some (BadTime 2))
    × (fault_1 (codes "CUE") ≡ Some (MissingNumber 1))
    × (fault_1 (codes "CUE x") ≡ Some (BadNumber 1))
    × (fault_1 (codes "PATCH 1 1<1") ≡ Some (HalfTriple 1))
    × (fault_1 (codes "PATCH 1 1<8193@FL") ≡ Some (Limit 1))
    × (fault_2 (codes "CUE 1") (codes "CHAN 5000@101") ≡ Some (BadLevel 2))
    × (fault_1 (codes "IDENT 2:0") ≡ Some (Ident 1))
    × (fault_1 (codes "IDENT 3:0") ≡ None)
show_faults = (refl, refl, refl, refl, refl, refl, refl, refl, refl, refl)

limits_refused : (fault_1 (codes "PATCH 1 1<8193@FL") ≡ Some (Limit 1))
    × (fault_1 (codes "PATCH 1 4097<1@FL") ≡ Some (Limit 1))
limits_refused = (refl, refl)

foreign_page_order : (fault_1 (codes "CUE x 2") ≡ Some (BadNumber 1))
    × (fault_1 (codes "SUB 101 2") ≡ Some (Limit 1))
    × (fault_1 (codes "CUE 3 2") ≡ None)
    × (skipped_1 (codes "CUE 3 2") ≡ 1)
foreign_page_order = (refl, refl, refl, refl)

follow_faults : (fault_2 (codes "CUE 1") (codes "FOLLOWON x") ≡ Some (BadTime 2))
    × (fault_2 (codes "CUE 1") (codes "FOLLOWON") ≡ Some (MissingNumber 2))
    × (fault_2 (codes "GROUP 1") (codes "FOLLOWON x") ≡ None)
follow_faults = (refl, refl, refl)

-- the first faulty line decides, and on it the lowest fault
first_fault_decides : (fault_3 (codes "CUE 1") (codes "CHAN 5000") (codes "IDENT")
    ≡ Some (HalfPair 2))
    × (fault_2 (codes "CUE 1") (codes "CHAN 1 FL x") ≡ Some (BadNumber 2))
    × (fault_3 (codes "CUE 1") (codes "$$") (codes "CHAN x") ≡ Some (BadNumber 3))
    × (fault_2 (codes "CUE 1") (codes "CHAN 1234567890@FL") ≡ Some (BadNumber 2))
    × (fault_1 (codes "SUB 101 x") ≡ Some (BadNumber 1))
    × (fault_1 (codes "CUE 10000") ≡ Some (BadNumber 1))
    × (fault_1 (codes "GROUP 0") ≡ Some (Limit 1))
    × (fault_1 (codes "PATCH 1 0<1@101") ≡ Some (BadLevel 1))
first_fault_decides = (refl, refl, refl, refl, refl, refl, refl, refl)

-- each number at both ends of its range, and beyond
ranges : (fault_2 (codes "CUE 1") (codes "CHAN 1@FL 4096@FL") ≡ None)
    × (fault_2 (codes "CUE 1") (codes "CHAN 0@FL") ≡ Some (Limit 2))
    × (fault_2 (codes "CUE 1") (codes "CHAN 4097@FL") ≡ Some (Limit 2))
    × (fault_1 (codes "PATCH 1 0<1@FL 4096<8192@FL") ≡ None)
    × (fault_1 (codes "PATCH 1 4097<1@FL") ≡ Some (Limit 1))
    × (fault_1 (codes "PATCH 1 1<0@FL") ≡ Some (Limit 1))
    × (fault_1 (codes "PATCH 1 1<8193@FL") ≡ Some (Limit 1))
    × (fault_2 (codes "GROUP 1") (codes "GROUP 500") ≡ None)
    × (fault_1 (codes "GROUP 501") ≡ Some (Limit 1))
    × (fault_2 (codes "SUB 1") (codes "SUB 100") ≡ None)
    × (fault_1 (codes "SUB 101") ≡ Some (Limit 1))
    × (fault_2 (codes "CUE .001") (codes "CUE 9999.999") ≡ None)
    × (fault_1 (codes "CUE 0") ≡ Some (BadNumber 1))
ranges = (refl, refl, refl, refl, refl, refl, refl, refl, refl, refl, refl, refl, refl)

-- the 2,000th cue has no fault, and the 2,001st has; one that is there already has none
cue_2000 : (above : List Statement) (n : ℕ) → cue_count above ≡ 1999
    → fault_below above (Opens (Cue n)) ≡ None
cue_2000 above n count = rw count (neither (is_record_there (Cue n) above))
  where
    neither : (b : Bool) → (if not b && false then Some line_fault.Limit else None) ≡ None
    neither true = refl
    neither false = refl

cue_2001 : (above : List Statement) (n : ℕ) → cue_count above ≡ 2000
    → is_record_there (Cue n) above ≡ false
    → fault_below above (Opens (Cue n)) ≡ Some line_fault.Limit
cue_2001 above n count new = rw (count, new) refl

cue_again : (above : List Statement) (n : ℕ) → cue_count above ≡ 2000
    → is_record_there (Cue n) above ≡ true
    → fault_below above (Opens (Cue n)) ≡ None
cue_again above n count there = rw (count, there) refl

-- which of the lines above the first faulty one grow the show, the last one first
abbrev growing : List (List ℕ) → List Bool
growing lines = map grows (faultless_front (statements_of desk_limits (text_of lines)))

what_grows : (growing [] ≡ [])
    × (growing (codes "! c" ∷ codes "UP 5" ∷ codes "CHAN 1@FL" ∷ []) ≡ false ∷ false ∷ false ∷ [])
    × (growing (codes "CUE x" ∷ codes "CUE 1" ∷ []) ≡ [])
    × (growing (codes "IDENT 3:0" ∷ codes "CLEAR ALL" ∷ codes "EFFECT 1" ∷ codes "IDENT" ∷ [])
    ≡ false ∷ false ∷ false ∷ [])
    × (growing (codes "PATCH 1" ∷ codes "PATCH 1 0<1@FL" ∷ codes "PATCH 1 0<1@FL 1<2@FL" ∷ [])
    ≡ true ∷ false ∷ false ∷ [])
    × (growing (codes "GROUP 1" ∷ codes "CHAN" ∷ codes "UP 5" ∷ codes "CHAN 1@0" ∷ [])
    ≡ true ∷ false ∷ false ∷ true ∷ [])
what_grows = (refl, refl, refl, refl, refl, refl)

-- accepted without a look at all their words
accepted : (fault_1 (codes "PATCH 2 x") ≡ None)
    × (fault_1 (codes "IDENT 3:0 x") ≡ None)
    × (fault_1 (codes "PATCH 1") ≡ None)
    × (fault_2 (codes "CUE 1") (codes "CHAN") ≡ None)
accepted = (refl, refl, refl, refl)

-- ---- owners and skipped lines

-- every primary line is an owner, a skipped one too
ownerless : (fault_3 (codes "CUE 1") (codes "IDENT 3:0") (codes "CHAN 1@x") ≡ None)
    × (skipped_3 (codes "CUE 1") (codes "IDENT 3:0") (codes "CHAN 1@x") ≡ 1)
    × (skipped_3 (codes "CUE 1") (codes "CLEAR x") (codes "CHAN 1@FL") ≡ 2)
    × (skipped_3 (codes "CUE 1") (codes "SET x") (codes "CHAN 1@FL") ≡ 1)
    × (skipped_3 (codes "CUE 1") (codes "$X") (codes "CHAN 1@FL") ≡ 2)
ownerless = (refl, refl, refl, refl, refl)

-- ENDDATA ends a maker's record too, and lines without words are not counted in one
makers_records : (lines_read desk_limits
    (text_of (codes "$X" ∷ codes "ENDDATA" ∷ codes "CUE 1" ∷ [])) ≡ 2)
    × (skipped_3 (codes "$X") (codes "ENDDATA") (codes "CUE 1") ≡ 1)
    × (lines_skipped desk_limits (text_of (codes "$X" ∷ [] ∷ codes "! c" ∷ codes "CUE 1" ∷ [])) ≡ 1)
makers_records = (refl, refl, refl)

-- a page's value counts
pages : (skipped_1 (codes "CUE 1 000000001") ≡ 0)
    × (skipped_1 (codes "CUE 1 0") ≡ 1)
    × (fault_1 (codes "CUE 1 x") ≡ Some (BadNumber 1))
pages = (refl, refl, refl)

abbrev skipping : List ℕ
skipping = text_of (
    codes "CUE 1" ∷ codes "CHAN 1@FL" ∷ codes "$$FADE 7" ∷ codes "CHAN 2@50"
    ∷ codes "$MAKER 9" ∷ codes "CHAN 1@0" ∷ codes "CUE 2 2" ∷ codes "CHAN 3@FL" ∷ []
    )

skipped_lines : (text_fault desk_limits skipping ≡ None)
    × (lines_read desk_limits skipping ≡ 8)
    × (lines_skipped desk_limits skipping ≡ 5)
    × (cue_count (statements_of desk_limits skipping) ≡ 1)
    × (is_record_there (Cue 1000) (statements_of desk_limits skipping) ≡ true)
    × (is_record_there (Cue 2000) (statements_of desk_limits skipping) ≡ false)
    × (meaning (statements_of desk_limits skipping) (Level (Cue 1000) 1) ≡ Some 255)
    × (meaning (statements_of desk_limits skipping) (Level (Cue 1000) 2) ≡ Some 128)
    × (meaning (statements_of desk_limits skipping) (Level (Cue 1000) 3) ≡ None)
skipped_lines = (refl, refl, refl, refl, refl, refl, refl, refl, refl)

abbrev clearing : List ℕ
clearing = text_of (
    codes "CUE 1" ∷ codes "CHAN 1@FL" ∷ codes "CLEAR CUES" ∷ codes "CHAN 2@FL" ∷ codes "CUE 2"
    ∷ codes "CLEAR CUE 2" ∷ []
    )

clear_cues : (text_fault desk_limits clearing ≡ None)
    × (lines_read desk_limits clearing ≡ 6)
    × (lines_skipped desk_limits clearing ≡ 2)
    × (cue_count (statements_of desk_limits clearing) ≡ 1)
    × (is_record_there (Cue 1000) (statements_of desk_limits clearing) ≡ false)
    × (is_record_there (Cue 2000) (statements_of desk_limits clearing) ≡ true)
clear_cues = (refl, refl, refl, refl, refl, refl)

-- CLEAR leaves what is in other tables
abbrev cleared_cues : List Statement
cleared_cues = statements_of desk_limits (text_of (
    codes "GROUP 1" ∷ codes "CHAN 1@FL" ∷ codes "CUE 1" ∷ codes "UP 5" ∷ codes "DOWN 4"
    ∷ codes "CHAN 1@FL" ∷ codes "PATCH 1 1<1@FL" ∷ codes "CLEAR CUE" ∷ []
    ))

other_tables : (meaning cleared_cues (Level (Cue 1000) 1) ≡ None)
    × (meaning cleared_cues (Time 1000 UpTime) ≡ None)
    × (meaning cleared_cues (Time 1000 DownTime) ≡ None)
    × (is_record_there (Group 1) cleared_cues ≡ true)
    × (meaning cleared_cues (Level (Group 1) 1) ≡ Some 255)
    × (meaning cleared_cues (Dimmer 1) ≡ Some (1, 255))
other_tables = (refl, refl, refl, refl, refl, refl)

-- ---- shows

abbrev console_text : List ℕ
console_text = carriage_text_of (
    codes "Ident 3:0" ∷ codes "Manufacturer Example" ∷ codes "Console Example" ∷
    codes "$$Format 3.20"
    ∷ codes "Clear all" ∷ codes "Set Channels 96" ∷ codes "Patch 1 1<1@Hff 2<2@Hff" ∷ codes "Cue 1"
    ∷ codes "  Up 3" ∷ codes "  Text Opening ! house" ∷ codes "  Chan 1/Hff 2/H80" ∷ codes "EndData"
    ∷ codes "Cue 9" ∷ []
    )

abbrev console_statements : List Statement
console_statements = statements_of desk_limits console_text

console_style_file : (text_fault desk_limits console_text ≡ None)
    × (lines_read desk_limits console_text ≡ 12)
    × (lines_skipped desk_limits console_text ≡ 1)
    × (is_record_there (Cue 1000) console_statements ≡ true)
    × (is_record_there (Cue 9000) console_statements ≡ false)
    × (meaning console_statements (Level (Cue 1000) 1) ≡ Some 255)
    × (meaning console_statements (Level (Cue 1000) 2) ≡ Some 128)
    × (meaning console_statements (Time 1000 UpTime) ≡ Some (record { time = 3000; delay = 0 }))
    × (meaning console_statements (Time 1000 DownTime) ≡ None)
    × (meaning console_statements (Dimmer 2) ≡ Some (2, 255))
    × (meaning console_statements (Dimmer 3) ≡ None)
console_style_file = (refl, refl, refl, refl, refl, refl, refl, refl, refl, refl, refl)

abbrev top_statements : List Statement
top_statements = statements_of desk_limits
    (text_of (codes "CUE 1" ∷ codes "CHAN 4096@FL" ∷ codes "PATCH 1 4096<8192@FL" ∷ []))

top_channel : (meaning top_statements (Level (Cue 1000) 4096) ≡ Some 255)
    × (meaning top_statements (Dimmer 8192) ≡ Some (4096, 255))
top_channel = (refl, refl)

-- channel 0 leaves a dimmer unpatched
unpatched :
    meaning (statements_of desk_limits (text_of (codes "PATCH 1 1<1@FL 0<1@FL" ∷ []))) (Dimmer 1)
    ≡ None
unpatched = refl

-- the last UP line wins whole; the lines of a cue that is opened twice count together
abbrev twice_opened : List Statement
twice_opened = statements_of desk_limits (text_of (
    codes "CUE 1" ∷ codes "UP 5 3" ∷ codes "CHAN 1@FL" ∷ codes "UP 5" ∷ codes "GROUP 1"
    ∷ codes "CUE 1"
    ∷ codes "DOWN 4 1" ∷ codes "CHAN 7@HF" ∷ []
    ))

last_rates : (meaning twice_opened (Time 1000 UpTime) ≡ Some (record { time = 5000; delay = 0 }))
    × (meaning twice_opened (Time 1000 DownTime) ≡ Some (record { time = 4000; delay = 1000 }))
    × (meaning twice_opened (Level (Cue 1000) 1) ≡ Some 255)
    × (meaning twice_opened (Level (Cue 1000) 7) ≡ Some 15)
    × (meaning twice_opened (Level (Group 1) 1) ≡ None)
    × (cue_count twice_opened ≡ 1)
last_rates = (refl, refl, refl, refl, refl, refl)

-- the last FOLLOWON line of a cue wins, and CLEAR takes it away
abbrev followed : List Statement
followed = statements_of desk_limits (text_of (
    codes "CUE 1" ∷ codes "FOLLOWON 10" ∷ codes "CUE 2" ∷ codes "FOLLOWON 3" ∷ codes "CUE 1"
    ∷ codes "FollowOn 1:30 x" ∷ codes "GROUP 1" ∷ codes "FOLLOWON 7" ∷ codes "CUE 3" ∷ []
    ))

abbrev followed_no_more : List Statement
followed_no_more = statements_of desk_limits
    (text_of (codes "CUE 1" ∷ codes "FOLLOWON 10" ∷ codes "CLEAR CUES" ∷ codes "CUE 1" ∷ []))

last_follow : (meaning followed (Time 1000 FollowTime) ≡ Some 90000)
    × (meaning followed (Time 2000 FollowTime) ≡ Some 3000)
    × (meaning followed (Time 3000 FollowTime) ≡ None)
    × (meaning followed (Time 1000 UpTime) ≡ None)
    × (meaning followed_no_more (Time 1000 FollowTime) ≡ None)
last_follow = (refl, refl, refl, refl, refl)
