-- What the readers answer.
use Rattle.std.specs.Prelude.{ℕ, ◌+◌, ◌-◌, ◌*◌, ◌/◌, ◌≤◌, ◌==◌, nat_lt, Bool, IsTrue}
use Rattle.std.specs.Prelude.{Option, unwrap_or, List, All, filter, map, find, reverse}
use Rattle.std.specs.List.{list_any, range_with_len}
use Rattle.std.specs.Option.{option_or, option_map_or}
use Rattle.std.specs.FinMap as maps
use Rattle.show_core.specs.declared.rate.Rate.{Rate}
use Rattle.show_core.specs.Numbers.{is_channel, is_dimmer, is_sub, is_group, is_cue_number}
use Rattle.show_core.specs.Cues.{HasTimes}
use Rattle.show_core.specs.Tables.{LevelMap, CueMap, PatchMap, Tables}

-- the rate that is set, else the other's, else zeros
abbrev pub rate_of : Option Rate → Option Rate → Rate
rate_of set other = unwrap_or (option_or set other) (record { time = 0; delay = 0 })

-- the level of a channel: 0 where none is listed
abbrev pub level_in : LevelMap → ℕ → ℕ
level_in levels channel = unwrap_or (maps.get levels channel) 0

-- the least cue above n
abbrev pub cue_above : CueMap → ℕ → Option ℕ
cue_above cues n = find (λ k. nat_lt n k) (maps.keys cues)

-- the greatest cue below n
abbrev pub cue_below : CueMap → ℕ → Option ℕ
cue_below cues n = find (λ k. nat_lt k n) (reverse (maps.keys cues))

-- the ordinal of the universe that a dimmer is in: dimmer d is slot (d - 1) mod 512 + 1 of ordinal
-- (d - 1) / 512
abbrev pub ordinal_of : ℕ → ℕ
ordinal_of dimmer = (dimmer - 1) / 512

-- a dimmer of the universe is patched
abbrev pub has_dimmer_in : PatchMap → ℕ → Bool
has_dimmer_in patch ordinal = list_any (λ e. ordinal_of e.0 == ordinal) (maps.entries patch)

-- the ordinals with a patched dimmer, ascending
abbrev pub patch_ordinals : PatchMap → List ℕ
patch_ordinals patch = filter (has_dimmer_in patch) (range_with_len 0 16)

-- a slot: the fine level of its channel, scaled by the grand master and the patch byte, to the
-- nearest byte
abbrev pub slot_of : ℕ → ℕ → ℕ → ℕ
slot_of level grand byte = (level * grand * byte + 8290687) / 16581375

-- the slot of a dimmer with these levels alone at full, and the grand master at 255; 0 where it is
-- not patched
abbrev pub look_slot : LevelMap → PatchMap → ℕ → ℕ
look_slot levels patch dimmer =
    option_map_or (λ p. slot_of (255 * level_in levels p.0) 255 p.1) (maps.get patch dimmer) 0

-- the frame of a universe: the slots of its 512 dimmers
abbrev pub look_frame : LevelMap → PatchMap → ℕ → List ℕ
look_frame levels patch ordinal =
    map (look_slot levels patch) (range_with_len (512 * ordinal + 1) 512)

-- channels stay in their range
abbrev pub HasChannels : LevelMap → Type 0
HasChannels levels = All (λ c. IsTrue (is_channel c)) (maps.keys levels)

-- what holds of each show that the builders make: no number is outside its range
pub record IsInRange (show : Tables) : Type 0 where
  pub cues_in : All (λ n. IsTrue (is_cue_number n)) (maps.keys show.cues)
  pub cues_fit : maps.len show.cues ≤ 2000
  pub times_in : All (λ e. HasTimes e.1) (maps.entries show.cues)
  pub subs_in : All (λ n. IsTrue (is_sub n)) (maps.keys show.subs)
  pub groups_in : All (λ n. IsTrue (is_group n)) (maps.keys show.groups)
  pub dimmers_in : All (λ d. IsTrue (is_dimmer d)) (maps.keys show.patch)
  pub patch_channels : All (λ e. IsTrue (is_channel e.1.0)) (maps.entries show.patch)
