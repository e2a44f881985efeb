-- What single lines say, evaluated.
use Rattle.std.specs.Prelude.{◌≡◌, ℕ, List, [], ◌∷◌, codes, Option, Some, None, option_map, refl}
use Rattle.ascii_text.specs.Text.{words_of}
use Rattle.show_core.specs.declared.cue.CueTime.TheVariants.{Up, Down, Follow}
use Rattle.show_line.specs.declared.fault.LineFault.TheVariants.{MissingNumber, BadNumber}
use Rattle.show_line.specs.declared.fault.LineFault.TheVariants.{BadLevel}
use Rattle.show_line.specs.declared.fault.LineFault.TheVariants.{BadTime, HalfPair}
use Rattle.show_line.specs.declared.fault.LineFault.TheVariants.{Limit}
use Rattle.show_line.specs.declared.statement.Cleared.TheVariants.{All, Only}
use Rattle.show_line.specs.declared.statement.Record.TheVariants.{Cue, Group, Sub}
use Rattle.show_line.specs.declared.statement.Statement.{Statement}
use Rattle.show_line.specs.declared.statement.Statement.TheVariants.{Opens, Levels, SetsTime}
use Rattle.show_line.specs.declared.statement.Statement.TheVariants.{Patches}
use Rattle.show_line.specs.declared.statement.Statement.TheVariants.{Clears, Quiet, Skipped, Faulty}
use Rattle.show_line.specs.declared.statement.Table.TheVariants.{Cues, Patch}
use Rattle.show_line.specs.Said.{desk_limits, line_reading}

-- what a line says below cue 1
abbrev in_cue : List ℕ → Option Statement
in_cue line =
    option_map (λ reading. reading.statement)
    (line_reading desk_limits (Some (Cue 1000)) (words_of line))

-- and below group 1
abbrev in_group : List ℕ → Option Statement
in_group line =
    option_map (λ reading. reading.statement)
    (line_reading desk_limits (Some (Group 1)) (words_of line))

-- and below no record
abbrev alone : List ℕ → Option Statement
alone line =
    option_map (λ reading. reading.statement) (line_reading desk_limits None (words_of line))

-- of several faults the lowest, and the form of a word before its range
lowest_faults : (alone (codes "SUB 101 x") ≡ Some (Faulty BadNumber))
    × (alone (codes "SUB 101 2") ≡ Some (Faulty Limit))
    × (alone (codes "CUE x 2") ≡ Some (Faulty BadNumber))
    × (alone (codes "CUE 10000") ≡ Some (Faulty BadNumber))
    × (alone (codes "GROUP 0") ≡ Some (Faulty Limit))
    × (in_cue (codes "CHAN 1234567890@FL") ≡ Some (Faulty BadNumber))
    × (in_cue (codes "CHAN 5000") ≡ Some (Faulty HalfPair))
    × (in_cue (codes "CHAN 1 FL x") ≡ Some (Faulty BadNumber))
    × (alone (codes "PATCH 1 0<1@101") ≡ Some (Faulty BadLevel))
lowest_faults = (refl, refl, refl, refl, refl, refl, refl, refl, refl)

-- a page other than 1, an unknown or missing table, no owner
lines_without_effect : (alone (codes "CUE 3 2") ≡ Some Skipped)
    × (alone (codes "CUE 1 0") ≡ Some Skipped)
    × (alone (codes "PATCH 2 x") ≡ Some Skipped)
    × (alone (codes "CLEAR") ≡ Some Skipped)
    × (alone (codes "CLEAR CUE 2") ≡ Some Skipped)
    × (alone (codes "CHAN 1@x") ≡ Some Skipped)
    × (in_cue (codes "$$FADE 7") ≡ Some Skipped)
lines_without_effect = (refl, refl, refl, refl, refl, refl, refl)

-- each number at both ends of its range, and beyond
channel_range : (in_cue (codes "CHAN 0@FL") ≡ Some (Faulty Limit))
    × (in_cue (codes "CHAN 1@FL") ≡ Some (Levels (Cue 1000) ((1, 255) ∷ [])))
    × (in_cue (codes "CHAN 4096@FL") ≡ Some (Levels (Cue 1000) ((4096, 255) ∷ [])))
    × (in_cue (codes "CHAN 4097@FL") ≡ Some (Faulty Limit))
channel_range = (refl, refl, refl, refl)

patch_range : (alone (codes "PATCH 1 4096<8192@FL")
    ≡ Some (Patches (record { channel = 4096; dimmer = 8192; level = 255 } ∷ [])))
    × (alone (codes "PATCH 1 4097<1@FL") ≡ Some (Faulty Limit))
    × (alone (codes "PATCH 1 1<8193@FL") ≡ Some (Faulty Limit))
    × (alone (codes "PATCH 1 1<0@FL") ≡ Some (Faulty Limit))
    × (alone (codes "PATCH 1 1<1@FL")
    ≡ Some (Patches (record { channel = 1; dimmer = 1; level = 255 } ∷ [])))
patch_range = (refl, refl, refl, refl, refl)

group_range : (alone (codes "GROUP 0") ≡ Some (Faulty Limit))
    × (alone (codes "GROUP 1") ≡ Some (Opens (Group 1)))
    × (alone (codes "GROUP 500") ≡ Some (Opens (Group 500)))
    × (alone (codes "GROUP 501") ≡ Some (Faulty Limit))
group_range = (refl, refl, refl, refl)

submaster_range : (alone (codes "SUB 0") ≡ Some (Faulty Limit))
    × (alone (codes "SUB 1") ≡ Some (Opens (Sub 1)))
    × (alone (codes "SUB 100") ≡ Some (Opens (Sub 100)))
    × (alone (codes "SUB 101") ≡ Some (Faulty Limit))
submaster_range = (refl, refl, refl, refl)

cue_range : (alone (codes "CUE 0") ≡ Some (Faulty BadNumber))
    × (alone (codes "CUE .001") ≡ Some (Opens (Cue 1)))
    × (alone (codes "CUE 9999.999") ≡ Some (Opens (Cue 9999999)))
    × (alone (codes "CUE 10000") ≡ Some (Faulty BadNumber))
cue_range = (refl, refl, refl, refl)

records : (alone (codes "Cue 1.5 000000001") ≡ Some (Opens (Cue 1500)))
    × (alone (codes "GROUP 500") ≡ Some (Opens (Group 500)))
    × (alone (codes "Sub 100 1 more") ≡ Some (Opens (Sub 100)))
records = (refl, refl, refl)

within_records :
    (in_cue (codes "  Chan 1/Hff 2/H80 ! house")
    ≡ Some (Levels (Cue 1000) ((1, 255) ∷ (2, 128) ∷ [])))
    × (in_cue (codes "CHAN") ≡ Some (Levels (Cue 1000) []))
    × (in_cue (codes "UP 5 3") ≡ Some (SetsTime 1000 (Up (record { time = 5000; delay = 3000 }))))
    × (in_cue (codes "Down .5") ≡ Some (SetsTime 1000 (Down (record { time = 500; delay = 0 }))))
within_records = (refl, refl, refl, refl)

-- a time in a cue; in a group it is not looked at
follow_faults : (in_cue (codes "FOLLOWON x") ≡ Some (Faulty BadTime))
    × (in_cue (codes "FOLLOWON") ≡ Some (Faulty MissingNumber))
    × (in_group (codes "FOLLOWON x") ≡ Some Quiet)
    × (in_group (codes "FOLLOWON") ≡ Some Quiet)
    × (alone (codes "FOLLOWON 10") ≡ Some Skipped)
follow_faults = (refl, refl, refl, refl, refl)

follow_times : (in_cue (codes "FOLLOWON 10") ≡ Some (SetsTime 1000 (Follow 10000)))
    × (in_cue (codes "FollowOn 0 x") ≡ Some (SetsTime 1000 (Follow 0)))
    × (in_cue (codes "FOLLOWON 99:59.99") ≡ Some (SetsTime 1000 (Follow 5999990)))
    × (in_cue (codes "FOLLOWON 1:60") ≡ Some (Faulty BadTime))
follow_times = (refl, refl, refl, refl)

patches : (alone (codes "PATCH 1") ≡ Some (Patches []))
    × (alone (codes "PATCH 1 0<1@50")
    ≡ Some (Patches (record { channel = 0; dimmer = 1; level = 128 } ∷ [])))
patches = (refl, refl)

clears : (alone (codes "Clear all") ≡ Some (Clears All))
    × (alone (codes "CLEAR CUES") ≡ Some (Clears (Only Cues)))
    × (alone (codes "CLEAR PATCH") ≡ Some (Clears (Only Patch)))
clears = (refl, refl, refl)

no_words : (alone (codes " ! CUE 1") ≡ None) × (alone (codes "@,") ≡ None)
no_words = (refl, refl)
