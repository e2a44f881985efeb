-- A show as four finite maps.
use Rattle.std.specs.Prelude.{ℕ}
use Rattle.std.specs.Ordering.{nat_cmp}
use Rattle.std.specs.FinMap as map
use Rattle.show_core.specs.declared.cue.CueData.{CueData}

-- the level byte of each channel that is listed
abbrev pub LevelMap : Type 0
LevelMap = map.FinMap nat_cmp ℕ

-- the cues, by their numbers in thousandths
abbrev pub CueMap : Type 0
CueMap = map.FinMap nat_cmp CueData

-- submasters or groups, by their numbers
abbrev pub MasterMap : Type 0
MasterMap = map.FinMap nat_cmp LevelMap

-- for each patched dimmer its channel and its level byte
abbrev pub PatchMap : Type 0
PatchMap = map.FinMap nat_cmp (ℕ × ℕ)

pub record Tables : Type 0 where
  pub cues : CueMap
  pub subs : MasterMap
  pub groups : MasterMap
  pub patch : PatchMap
