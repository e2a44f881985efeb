-- The notes on a show: on its patch, on cues and channels that no dimmer shows, and on cues that
-- look as the one before.
use Rattle.std.specs.Prelude.{ℕ, ◌==◌, ◌&&◌, ◌||◌, nat_lt, Bool, false, not, if◌then◌else◌}
use Rattle.std.specs.Prelude.{List, [], ◌∷◌, ◌++◌, Option, Some, None, codes, decimal, filter}
use Rattle.std.specs.Prelude.{flat_map, length}
use Rattle.std.specs.List.{list_all, list_any, range_with_len, slice_index_or}
use Rattle.std.specs.Option.{option_map_or}
use Rattle.std.specs.FinMap as maps
use Rattle.show_core.specs.declared.cue.CueData.{CueData}
use Rattle.show_core.specs.Readers.{level_in}
use Rattle.show_core.specs.Tables.{CueMap, LevelMap, PatchMap, Tables}
use Rattle.cmd_explain.specs.Decimals.{decimal_text}

-- ---- what is patched and listed

-- some dimmer is patched to the channel
abbrev pub is_patched : PatchMap → ℕ → Bool
is_patched patch channel = list_any (λ e. e.1.0 == channel) (maps.entries patch)

-- a cue lists the channel
abbrev pub lists : ℕ → LevelMap → Bool
lists channel levels = list_any (λ pair. pair.0 == channel) (maps.entries levels)

-- one of these cues lists it
abbrev pub is_listed : CueMap → List ℕ → ℕ → Bool
is_listed cues numbers channel =
    list_any (λ n. option_map_or (λ cue. lists channel cue.levels) (maps.get cues n) false) numbers

-- a cue lists channels of which none is patched; the first argument says which are
abbrev pub is_dark : (ℕ → Bool) → LevelMap → Bool
is_dark patched levels =
    nat_lt 0 (length (maps.entries levels))
    && not (list_any (λ pair. patched pair.0) (maps.entries levels))

-- those of some cues that are dark
abbrev pub dark_cues : (ℕ → Bool) → CueMap → List ℕ → List ℕ
dark_cues patched cues numbers =
    filter (λ n. option_map_or (λ cue. is_dark patched cue.levels) (maps.get cues n) false) numbers

-- the channels from 1 to 4096 that are listed and not patched, by what says which are
abbrev pub dark_channels : (ℕ → Bool) → (ℕ → Bool) → List ℕ
dark_channels listed patched =
    filter (λ channel. listed channel && not (patched channel)) (range_with_len 1 4096)

-- ---- cues that look the same

-- where one cue is above 0, another has its level
abbrev pub has_levels_of : LevelMap → LevelMap → Bool
has_levels_of other one =
    list_all (λ pair. (pair.1 == 0) || (level_in other pair.0 == pair.1)) (maps.entries one)

abbrev pub look_alike : Option CueData → Option CueData → Bool
look_alike (Some one) (Some other) =
    has_levels_of other.levels one.levels && has_levels_of one.levels other.levels
look_alike _ _ = false

-- a cue looks as the one before, if there is one
abbrev pub changes_nothing : CueMap → Option ℕ → ℕ → Bool
changes_nothing cues (Some before) n = look_alike (maps.get cues before) (maps.get cues n)
changes_nothing cues None n = false

-- those of some cues that look as the one before
abbrev pub same_cues : CueMap → Option ℕ → List ℕ → List ℕ
same_cues cues before [] = []
same_cues cues before (n ∷ numbers) =
    (if changes_nothing cues before n then n ∷ [] else []) ++ same_cues cues (Some n) numbers

-- ---- the notes

-- a note that lists numbers, each behind a space; none where there are none
abbrev pub list_note : List ℕ → (ℕ → List ℕ) → List ℕ → List ℕ
list_note about text [] = []
list_note about text (n ∷ numbers) =
    codes "note: " ++ about ++ flat_map (λ m. codes " " ++ text m) (n ∷ numbers) ++ codes "\n"

abbrev pub no_patch_note : List ℕ
no_patch_note = codes "note: no dimmer is patched: no universe is sent\n"

-- on cues and channels that no dimmer shows
unfoldable pub dark_notes : Tables → List ℕ
dark_notes show =
    list_note (codes "cues of which no channel is patched:") decimal_text
    (dark_cues (is_patched show.patch) show.cues (maps.keys show.cues))
    ++ list_note (codes "channels of cues that are patched nowhere:") decimal
    (dark_channels (is_listed show.cues (maps.keys show.cues)) (is_patched show.patch))

unfoldable pub patch_notes : Tables → List ℕ
patch_notes show =
    if nat_lt 0 (length (maps.entries show.patch)) then dark_notes show else no_patch_note

unfoldable pub show_notes : Tables → List ℕ
show_notes show =
    patch_notes show
    ++ list_note (codes "cues that look as the one before:") decimal_text
    (same_cues show.cues None (maps.keys show.cues))

-- ---- channels as they are marked in a list

abbrev pub is_marked : List Bool → ℕ → Bool
is_marked channels channel = slice_index_or channels channel false
