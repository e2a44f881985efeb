-- The rows of the cue list.
use Rattle.std.specs.Prelude.{ℕ, ◌==◌, List, count_by, map}
use Rattle.std.specs.FinMap as maps
use Rattle.show_core.specs.declared.cue.CueData.{CueData}
use Rattle.show_core.specs.Readers.{ordinal_of, rate_of}
use Rattle.show_core.specs.Tables.{CueMap, PatchMap}
use Rattle.cmd_cues.specs.declared.cue_rows.CueRow.{CueRow}

-- a cue as it is played: without UP its rising levels take the rate of DOWN, and the reverse; how
-- many channels it lists
abbrev pub cue_row : ℕ × CueData → CueRow
cue_row e = record {
  number = e.0;
  up = rate_of e.1.up e.1.down;
  down = rate_of e.1.down e.1.up;
  follow = e.1.follow;
  channels = maps.len e.1.levels;
}

-- the cues, ascending
abbrev pub cue_rows : CueMap → List CueRow
cue_rows cues = map cue_row (maps.entries cues)

-- how many dimmers of a universe are patched, by its ordinal
abbrev pub dimmer_count : PatchMap → ℕ → ℕ
dimmer_count patch ordinal = count_by (λ e. ordinal_of e.0 == ordinal) (maps.entries patch)
