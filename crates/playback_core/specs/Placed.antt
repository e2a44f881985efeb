-- Where a playback is in the cue list.
use Rattle.std.specs.Prelude.{◌≡◌, ℕ, nat_lt, Bool, List, Option, unwrap_or, filter, length}
use Rattle.std.specs.FinMap as map
use Rattle.show_core.specs.Tables.{CueMap, Tables}
use Rattle.playback_core.specs.Played.{Move, current_after, due_moment}
use Rattle.playback_core.specs.declared.place.Place.{Place}

-- the place after these moves
pub record IsPlaceAfter (show : Tables) (place : Place) (moves : List Move)
    (stopped : Bool) : Type 0 where
  pub current : place.current ≡ current_after moves
  pub due : place.due ≡ due_moment show stopped moves

-- how many numbers of a list are above this one
abbrev pub count_above : List ℕ → ℕ → ℕ
count_above numbers n = length (filter (nat_lt n) numbers)

-- how many cues are above the current one
abbrev pub cues_above : CueMap → Option ℕ → ℕ
cues_above cues current = count_above (map.keys cues) (unwrap_or current 0)
