-- Laws over the definitions alone.
use Rattle.std.specs.Prelude.{ℕ, ◌<◌, ◌≤◌, List, IfSome}
use Rattle.show_core.specs.Tables.{Tables}
use Rattle.fade_core.specs.Level.{IsTowards}
use Rattle.playback_core.specs.Played.{Move, next_move, with_due, playback_level, playback_target}

-- between two moves a playback never turns back: as time passes, each channel goes from its level
-- towards its target
abbrev pub PlaybacksNeverTurnBack : Type 0
PlaybacksNeverTurnBack =
    (show : Tables) (moves : List Move) (channel x y : ℕ) → x ≤ y
    → IsTowards (playback_level show moves channel x) (playback_target show moves channel)
    (playback_level show moves channel y)

-- after the moves that are due by a moment, the next one is due later, if any is
abbrev pub NoneIsLeftDue : Type 0
NoneIsLeftDue =
    (show : Tables) (moment : ℕ) (moves : List Move)
    → IfSome (next_move show (with_due show moment moves)) (λ next. moment < next.moment)
