-- What a playback keeps.
use Rattle.std.specs.Prelude.{ℕ, Option}

-- the fader, the current cue where there is one, and the moment at which the next one follows it by
-- itself where one does
pub record PlaybackState (F : Type 0) : Type 0 where
  pub fader : F
  pub current : Option ℕ
  pub due : Option ℕ
