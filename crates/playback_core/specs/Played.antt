-- The moves of a playback: which cue each takes, and the levels after them.
use Rattle.std.specs.Prelude.{ℕ, ◌+◌, ◌-◌, ◌*◌, nat_le, Bool, false, if◌then◌else◌}
use Rattle.std.specs.Prelude.{List, [], ◌∷◌, Option, Some, None, unwrap_or, option_and_then}
use Rattle.std.specs.Prelude.{option_map}
use Rattle.std.specs.Option.{option_map_or}
use Rattle.std.specs.FinMap as map
use Rattle.show_core.specs.declared.cue.CueData.{CueData}
use Rattle.show_core.specs.declared.rate.Rate.{Rate}
use Rattle.show_core.specs.Cues.{blank}
use Rattle.show_core.specs.Readers.{rate_of, level_in, cue_above, cue_below}
use Rattle.show_core.specs.Tables.{CueMap, Tables}
use Rattle.fade_core.specs.Level.{Start, split_fade}

-- a move to a cue, with the time that it takes where that is not the cue's. Lists of moves have the
-- newest first
pub record Move : Type 0 where
  pub cue : ℕ
  pub moment : ℕ
  pub time : Option ℕ

-- the cue of the newest move is the current one
abbrev pub current_after : List Move → Option ℕ
current_after [] = None
current_after (move ∷ older) = Some move.cue

-- go takes the least cue above the current one, or the first where none is current
abbrev pub go_target : CueMap → Option ℕ → Option ℕ
go_target cues current = cue_above cues (unwrap_or current 0)

-- back takes the greatest cue below the current one
abbrev pub back_target : CueMap → Option ℕ → Option ℕ
back_target cues current = option_and_then (cue_below cues) current

-- goto takes the cue named, where it is there
abbrev pub goto_target : CueMap → ℕ → Option ℕ
goto_target cues n = if map.contains_key cues n then Some n else None

-- cue n of the show; one that lists nothing where it is not there
abbrev pub cue_at : Tables → ℕ → CueData
cue_at show n = unwrap_or (map.get show.cues n) blank

-- ---- moves by themselves

-- the move to a cue so long after a moment, where there are both; it takes the cue's times
abbrev pub move_after : ℕ → Option ℕ → Option ℕ → Option Move
move_after moment (Some cue) (Some time) =
    Some (record { cue = cue; moment = moment + time; time = None })
move_after moment _ _ = None

-- the move that is due after these: to the next cue number, so long after the newest move as the
-- follow-on time of its cue, where it has one and there is such a cue
abbrev pub next_move : Tables → List Move → Option Move
next_move show [] = None
next_move show (move ∷ older) =
    move_after move.moment (cue_above show.cues move.cue) (cue_at show move.cue).follow

-- the moves and those that follow them by themselves up to a moment, each at its own moment; at
-- most one for each number of this list
abbrev pub with_follow_ons : Tables → ℕ → List ℕ → List Move → List Move
with_follow_ons show moment [] moves = moves
with_follow_ons show moment (_ ∷ others) moves =
    option_map_or (λ next. if nat_le next.moment moment
    then with_follow_ons show moment others (next ∷ moves) else moves) (next_move show moves) moves

-- the moves and all that follow them by themselves up to a moment: each goes to a greater cue
-- number, so there are at most as many as cues
unfoldable pub with_due : Tables → ℕ → List Move → List Move
with_due show moment moves = with_follow_ons show moment (map.keys show.cues) moves

-- the moves up to a moment; none follows by itself once the playback was stopped
abbrev pub moves_by : Tables → Bool → ℕ → List Move → List Move
moves_by show stopped moment moves = if stopped then moves else with_due show moment moves

-- the moment at which the next cue goes by itself; none where the playback was stopped
abbrev pub due_moment : Tables → Bool → List Move → Option ℕ
due_moment show stopped moves =
    if stopped then None else option_map (λ move. move.moment) (next_move show moves)

-- there is a moment, and it is not after this one
abbrev pub is_by : Option ℕ → ℕ → Bool
is_by None moment = false
is_by (Some due) moment = nat_le due moment

-- ---- levels

-- the rate of a move: its own time without delay, where it has one, or else the cue's rate
abbrev pub move_rate : Option ℕ → Rate → Rate
move_rate (Some time) of_cue = record { time = time; delay = 0 }
move_rate None of_cue = of_cue

-- the rate at which levels rise in a move
abbrev pub up_rate : Tables → Move → Rate
up_rate show move =
    let cue = cue_at show move.cue in move_rate move.time (rate_of cue.up cue.down)

-- the rate at which levels fall in a move
abbrev pub down_rate : Tables → Move → Rate
down_rate show move =
    let cue = cue_at show move.cue in move_rate move.time (rate_of cue.down cue.up)

-- the level of a channel at a moment after these moves: 0 before the first; a move fades from the
-- level at its moment to 255 times the byte in its cue, at the rates of the move
abbrev pub playback_level : Tables → List Move → ℕ → ℕ → ℕ
playback_level show [] channel moment = 0
playback_level show (move ∷ older) channel moment =
    split_fade (playback_level show older channel move.moment)
    (255 * level_in (cue_at show move.cue).levels channel)
    (up_rate show move) (down_rate show move) (moment - move.moment)

-- where a channel goes after these moves
abbrev pub playback_target : Tables → List Move → ℕ → ℕ
playback_target show [] channel = 0
playback_target show (move ∷ older) channel = 255 * level_in (cue_at show move.cue).levels channel

-- the start that a move makes
abbrev pub start_of : Tables → Move → Start
start_of show move =
    record {
      look = map.entries (cue_at show move.cue).levels;
      up = up_rate show move;
      down = down_rate show move;
      moment = move.moment;
    }
