-- The cue list as a table.
use Rattle.std.specs.Prelude.{ℕ, ◌+◌, ◌-◌, List, [], ◌∷◌, ◌++◌, codes, decimal, flat_map, length}
use Rattle.std.specs.Prelude.{if◌then◌else◌, replicate, take, Option}
use Rattle.std.specs.Option.{option_map_or}
use Rattle.std.specs.FinMap as maps
use Rattle.ascii_text.specs.Text.{is_word}
use Rattle.show_core.specs.declared.rate.Rate.{Rate}
use Rattle.show_core.specs.Readers.{patch_ordinals}
use Rattle.show_core.specs.Tables.{LevelMap, PatchMap, Tables}
use Rattle.show_line.specs.declared.statement.Record.{Record}
use Rattle.show_line.specs.declared.statement.Record.TheVariants.{Cue, Group, Sub}
use Rattle.cmd_explain.specs.Skipped.{display_text}
use Rattle.cmd_cues.specs.declared.cue_rows.CueRow.{CueRow}
use Rattle.cmd_explain.specs.Decimals.{decimal_text}
use Rattle.cmd_cues.specs.Rows.{cue_rows, dimmer_count}

-- a cell at the right of its column
abbrev pub cell : ℕ → List ℕ → List ℕ
cell width text = replicate (width - length text) 32 ++ text

-- the two cells of a rate: its time and its delay, in seconds
abbrev pub rate_cells : Rate → List ℕ
rate_cells rate = cell 9 (decimal_text rate.time) ++ cell 9 (decimal_text rate.delay)

-- that of a follow-on time, or `-` where the cue waits for a command
abbrev pub follow_cell : Option ℕ → List ℕ
follow_cell follow = cell 9 (option_map_or decimal_text follow (codes "-"))

-- a label at the end of a line: two spaces, and its first 80 bytes as they are shown
abbrev pub label_cell : List ℕ → List ℕ
label_cell label = if is_word label then codes "  " ++ display_text (take 80 label) else []

-- the line of a cue
abbrev pub cue_table_line : (Record → List ℕ) → CueRow → List ℕ
cue_table_line label cue =
    cell 8 (decimal_text cue.number) ++ rate_cells cue.up ++ rate_cells cue.down
    ++ follow_cell cue.follow ++ cell 10 (decimal cue.channels)
    ++ label_cell (label (Cue cue.number)) ++ codes "\n"

-- the line of a submaster or group
abbrev pub master_table_line : (ℕ → List ℕ) → ℕ × LevelMap → List ℕ
master_table_line label e =
    cell 9 (decimal e.0) ++ cell 10 (decimal (maps.len e.1)) ++ label_cell (label e.0) ++ codes "\n"

-- the line of a universe: its number, with 1 that of ordinal 0, and how many dimmers are patched
abbrev pub universe_table_line : PatchMap → ℕ → List ℕ
universe_table_line patch ordinal =
    cell 9 (decimal (ordinal + 1)) ++ cell 10 (decimal (dimmer_count patch ordinal)) ++ codes "\n"

-- a head and a line for each; nothing where there are none
abbrev pub section : {X : Type 0} → List ℕ → (X → List ℕ) → List X → List ℕ
section head line [] = []
section head line (x ∷ xs) = head ++ flat_map line (x ∷ xs)

-- the table of a show: its cues, ascending, and then its submasters, groups and universes
abbrev pub table_text : (Record → List ℕ) → Tables → List ℕ
table_text label show =
    codes "     cue       up    delay     down    delay   follow  channels  label\n"
    ++ flat_map (cue_table_line label) (cue_rows show.cues)
    ++ section (codes "\nsubmaster  channels  label\n") (master_table_line (λ n. label (Sub n)))
    (maps.entries show.subs)
    ++ section (codes "\n    group  channels  label\n") (master_table_line (λ n. label (Group n)))
    (maps.entries show.groups)
    ++ section (codes "\n universe   dimmers\n") (universe_table_line show.patch)
    (patch_ordinals show.patch)
