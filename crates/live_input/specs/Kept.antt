-- What a live input keeps.
use Rattle.std.specs.Prelude.{ℕ, Bool, List}
use Rattle.live_input.specs.declared.progress.Progress.{Progress}

-- the bytes that came and were not taken yet, and those of the next line that were taken
pub record TypedKept : Type 0 where
  pub unread : List ℕ
  pub line : List ℕ

-- what was typed; whether the night ends with its input, which ended; the clock; whether keys were
-- left out of the line that was answered last; and what the answers so far leave
pub record InputState : Type 0 where
  pub typed : TypedKept
  pub ends : Bool
  pub now : ℕ
  pub keys : Bool
  pub progress : Progress
