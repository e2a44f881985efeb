-- The level of a channel: the highest of what playback, the submasters and the groups make it.
use Rattle.std.specs.Prelude.{ℕ, ◌*◌, List, [], ◌∷◌, map, max}
use Rattle.std.specs.FinMap as maps
use Rattle.show_core.specs.Tables.{MasterMap, Tables}
use Rattle.show_core.specs.Readers.{level_in}
use Rattle.master_core.specs.Settings.{Setting, sub_after, group_after}

-- the greatest of some numbers; 0 where there is none
abbrev pub greatest : List ℕ → ℕ
greatest [] = 0
greatest (x ∷ xs) = max x (greatest xs)

-- the greatest that the records of a table make a channel: its byte in the record times the
-- record's master
abbrev pub greatest_in : MasterMap → (ℕ → ℕ) → ℕ → ℕ
greatest_in records master channel =
    greatest (map (λ e. level_in e.1 channel * master e.0) (maps.entries records))

-- the level of a channel after these settings: the highest of the playback level, the submasters
-- and the groups
abbrev pub merged_after : Tables → List Setting → ℕ → ℕ → ℕ
merged_after show settings channel playback =
    max playback (max (greatest_in show.subs (sub_after settings) channel)
    (greatest_in show.groups (group_after settings) channel))
