-- A night that follows a main. Lists of lines and of what it is told have the newest first.
use Rattle.std.specs.Prelude.{◌≡◌, ◌≤◌, ◌⊎◌, ℕ, Bool, true, false, List, [], ◌∷◌, ◌++◌, length}
use Rattle.std.specs.Prelude.{Option, Some, None}
use Rattle.devices.specs.Send.{Send}
use Rattle.fade_core.specs.Level.{Start}
use Rattle.console.specs.Streams.{Production}
use Rattle.live_input.specs.Night.{answers, is_over}
use Rattle.live_input.specs.Recall.{AreRecalled, IsRecalled, recall_of}
use Rattle.live_machine.specs.declared.follow_end.FollowEnd.{FollowEnd}
use Rattle.live_machine.specs.declared.follow_end.FollowEnd.TheVariants as follow
use Rattle.cmd_live.specs.declared.follow.Pause.{Pause}
use Rattle.cmd_live.specs.declared.follow.Pause.TheVariants.{Asked, Ended, Other}
use Rattle.cmd_live.specs.declared.main_console.Led.{Led}
use Rattle.cmd_live.specs.declared.main_console.Led.TheVariants.{Line, Where, End}
use Rattle.cmd_live.specs.declared.night.Night.{Night}
use Rattle.cmd_live.specs.Beginning.{TakesUp}
use Rattle.cmd_live.specs.Stands.{OfEach, StandsFor}

-- lines of the main, and nothing else
abbrev pub led_by : List (List ℕ) → List Led → Type 0
led_by [] [] = Unit {0}
led_by (line ∷ lines) (Line led ∷ older) = (led.items ≡ line) × led_by lines older
led_by _ _ = ⊥

-- the night is over behind these lines
abbrev pub IsOverBehind : {F : Type 0} → (F → List Start → Type 0) → Night F → List (List ℕ)
    → Type 0
IsOverBehind fader_stands_for night lines =
    (p : Production) (older : List (List ℕ)) → StandsFor fader_stands_for p night (recall_of older)
    → is_over (answers (recall_of (lines ++ older))) ≡ true

-- what it was told since, where these lines were taken up: they, and then `where`, or the end of
-- the following; or they alone, where the night is over behind them, or where there were 2^64 - 1
abbrev pub PausesAt : {F : Type 0} → (F → List Start → Type 0) → Pause → Night F
    → List (List ℕ) → List Led → Type 0
PausesAt fader_stands_for Asked night lines since =
    (older : List Led) × (since ≡ Where ∷ older) × led_by lines older
PausesAt fader_stands_for Ended night lines since =
    ((older : List Led) × (since ≡ End ∷ older) × led_by lines older)
    ⊎ (led_by lines since
    × (IsOverBehind fader_stands_for night lines ⊎ (18446744073709551615 ≤ length since)))
PausesAt fader_stands_for Other night lines since = ⊥

-- a night took up the lines that it was told, and nothing else, until it paused
pub record Follows {F : Type 0} (fader_stands_for : F → List Start → Type 0) (tells : Type 0)
    (pause : Pause) (old new : Night F) (given gives : List Led) (before after : List Send)
    : Type 0 where
  pub lines : List (List ℕ)
  pub since : List Led
  pub given_is : tells → gives ≡ since ++ given
  pub takes : TakesUp fader_stands_for tells old new lines before after
  pub pauses : PausesAt fader_stands_for pause old lines since

-- and it stopped at a line that no live night gives behind them
pub record Stops {F : Type 0} (fader_stands_for : F → List Start → Type 0) (tells : Type 0)
    (old : Night F) (given gives : List Led) : Type 0 where
  pub lines : List (List ℕ)
  pub older : List Led
  pub newest : Led
  pub line : List ℕ
  pub is_line : led_by (line ∷ lines) (newest ∷ older)
  pub given_is : tells → gives ≡ (newest ∷ older) ++ given
  pub other : (p : Production) (before : List (List ℕ))
      → StandsFor fader_stands_for p old (recall_of before) → AreRecalled before
      → IsRecalled line (recall_of (lines ++ before)) → ⊥

abbrev pub HasFollowed : {F : Type 0} → (F → List Start → Type 0) → Type 0 → Pause → Night F
    → Night F → List Led → List Led → List Send → List Send → Type 0
HasFollowed fader_stands_for tells Other old new given gives before after =
    Stops fader_stands_for tells old given gives
HasFollowed fader_stands_for tells pause old new given gives before after =
    Follows fader_stands_for tells pause old new given gives before after

-- why a night does not follow its main for now; none at a line that no live night gives
abbrev pub end_of_pause : Pause → Bool → Option FollowEnd
end_of_pause Asked is_over = Some follow.Asked
end_of_pause Ended true = Some follow.Over
end_of_pause Ended false = Some follow.Ended
end_of_pause Other is_over = None

-- a night followed its main until it paused, and this says why, or that it came to a line that no
-- live night gives
pub record FollowsMain {F : Type 0} (fader_stands_for : F → List Start → Type 0) (tells : Type 0)
    (end : Option FollowEnd) (old new : Night F) (given gives : List Led)
    (before after : List Send) : Type 0 where
  pub pause : Pause
  pub is_over_now : Bool
  pub end_is : end ≡ end_of_pause pause is_over_now
  pub over : OfEach fader_stands_for new (λ p happened. is_over_now ≡ is_over (answers happened))
  pub follows : HasFollowed fader_stands_for tells pause old new given gives before after
