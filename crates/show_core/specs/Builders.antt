-- What each builder makes of a table.
use Rattle.std.specs.Prelude.{ℕ, ◌==◌, if◌then◌else◌, Bool, ◌&&◌, ◌||◌, nat_le, nat_lt}
use Rattle.std.specs.Prelude.{List, [], ◌∷◌}
use Rattle.std.specs.Option.{option_map_or}
use Rattle.std.specs.FinMap as map
use Rattle.show_core.specs.declared.cue.CueData.{CueData}
use Rattle.show_core.specs.declared.cue.CueTime.{CueTime}
use Rattle.show_core.specs.Cues.{blank, cue_with_time}
use Rattle.show_core.specs.Numbers.{is_cue_number, is_dimmer}
use Rattle.show_core.specs.Tables.{LevelMap, CueMap, MasterMap, PatchMap}

-- ---- levels

-- with a level byte of each channel, one after the other: the last one of a channel counts
abbrev pub with_bytes : LevelMap → List (ℕ × ℕ) → LevelMap
with_bytes levels [] = levels
with_bytes levels (p ∷ pairs) = with_bytes (map.insert levels p.0 p.1) pairs

-- ---- cues

-- with cue n: as it is, or blank where it is not there
abbrev pub with_cue : CueMap → ℕ → CueMap
with_cue cues n = if map.contains_key cues n then cues else map.insert cues n blank

-- n is a cue number, and is there or is not one cue too many
abbrev pub can_open : CueMap → ℕ → Bool
can_open cues n = is_cue_number n && (map.contains_key cues n || nat_lt (map.len cues) 2000)

-- with what the function makes of cue n, where it is there
abbrev pub with_change : CueMap → ℕ → (CueData → CueData) → CueMap
with_change cues n change =
    option_map_or (λ cue. map.insert cues n (change cue)) (map.get cues n) cues

-- with a level of cue n
abbrev pub with_level : CueMap → ℕ → ℕ → ℕ → CueMap
with_level cues n channel byte =
    with_change cues n (λ cue. record cue { levels = map.insert cue.levels channel byte })

-- with levels of cue n, one after the other: the last one of a channel counts
abbrev pub with_levels : CueMap → ℕ → List (ℕ × ℕ) → CueMap
with_levels cues n [] = cues
with_levels cues n (p ∷ pairs) = with_levels (with_level cues n p.0 p.1) n pairs

-- with a time of cue n
abbrev pub with_time : CueMap → ℕ → CueTime → CueMap
with_time cues n time = with_change cues n (λ cue. cue_with_time cue time)

-- ---- submasters and groups

-- with record n: as it is, or with no channel listed where it is not there
abbrev pub opened_in : MasterMap → ℕ → MasterMap
opened_in masters n = if map.contains_key masters n then masters else map.insert masters n map.empty

-- with a level of record n
abbrev pub with_listed : MasterMap → ℕ → ℕ → ℕ → MasterMap
with_listed masters n channel byte =
    option_map_or (λ levels. map.insert masters n (map.insert levels channel byte))
    (map.get masters n) masters

-- with levels of record n, one after the other: the last one of a channel counts
abbrev pub with_all_listed : MasterMap → ℕ → List (ℕ × ℕ) → MasterMap
with_all_listed masters n [] = masters
with_all_listed masters n (p ∷ pairs) = with_all_listed (with_listed masters n p.0 p.1) n pairs

-- ---- the patch

-- the dimmer may take the channel; channel 0 leaves it unpatched
abbrev pub can_patch : ℕ → ℕ → Bool
can_patch dimmer channel = is_dimmer dimmer && nat_le channel 4096

-- with the dimmer patched to the channel, or unpatched at channel 0
abbrev pub patched_with : PatchMap → ℕ → ℕ → ℕ → PatchMap
patched_with patch dimmer channel byte =
    if channel == 0 then map.remove patch dimmer else map.insert patch dimmer (channel, byte)

-- with each dimmer patched to its channel, one after the other: the last one of a dimmer counts
abbrev pub all_patched : PatchMap → List (ℕ × (ℕ × ℕ)) → PatchMap
all_patched patch [] = patch
all_patched patch (e ∷ entries) = all_patched (patched_with patch e.0 e.1.0 e.1.1) entries
