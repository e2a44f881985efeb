-- What a playback keeps, against the moves so far.
use Rattle.std.specs.Prelude.{◌≡◌, ℕ, Bool, false, List, ◌∷◌, map, Option, Some, None, Result}
use Rattle.std.specs.Prelude.{IfOk, OnOk, OnErr}
use Rattle.show_core.specs.Tables.{Tables}
use Rattle.fade_core.specs.Level.{Start}
use Rattle.playback_core.specs.declared.playback.NoMove.{NoMove}
use Rattle.playback_core.specs.Playing.{PlaybackState}
use Rattle.playback_core.specs.Played.{Move, start_of, current_after, due_moment, moves_by}

-- a playback stands for these moves over a show, the newest first: its current cue is that of the
-- newest; the next one is due at the moment of the move that is due, and never once it was stopped;
-- and its fader stands, by the fader's own relation, for the starts that the moves make
pub record StandsFor {F : Type 0} (fader_stands_for : F → List Start → Type 0) (show : Tables)
    (playback : PlaybackState F) (moves : List Move) (stopped : Bool) : Type 0 where
  pub current : playback.current ≡ current_after moves
  pub due : playback.due ≡ due_moment show stopped moves
  pub fader : fader_stands_for playback.fader (map (start_of show) moves)

-- this holds of each show and list of moves that a playback stands for, and of whether it stopped
abbrev pub OfEach : {F : Type 0} → (F → List Start → Type 0) → PlaybackState F
    → (Tables → List Move → Bool → Type 0) → Type 0
OfEach fader_stands_for playback fact = (show : Tables) (moves : List Move) (stopped : Bool)
    → StandsFor fader_stands_for show playback moves stopped → fact show moves stopped

-- a playback moved to a cue: whatever moves it stood for before, it now stands for these, those
-- that followed them by themselves up to the moment, and this one
abbrev pub MovesTo : {F : Type 0} → (F → List Start → Type 0) → Tables → PlaybackState F
    → PlaybackState F
    → Move → Type 0
MovesTo fader_stands_for show before after move =
    (moves : List Move) (stopped : Bool) → StandsFor fader_stands_for show before moves stopped
    → StandsFor fader_stands_for show after (move ∷ moves_by show stopped move.moment moves) false

-- a playback was asked to move at a moment, over a time of its own or the cue's: at Ok it moved to
-- the cue that is answered, which is current now; at Err nothing changed
pub record Moves {F : Type 0} (fader_stands_for : F → List Start → Type 0) (latest : F → ℕ)
    (show : Tables) (moment : ℕ) (time : Option ℕ) (before after : PlaybackState F)
    (result : Result ℕ NoMove) : Type 0 where
  pub stands : IfOk result (λ cue. MovesTo fader_stands_for show before after
      (record { cue = cue; moment = moment; time = time }))
  pub current : IfOk result (λ cue. after.current ≡ Some cue)
  pub latest_is : OnOk result (latest after.fader ≡ moment)
  pub unchanged : OnErr result (after ≡ before)

-- it was asked to move from the cue that is current at the moment, the moves due by then made, over
-- the times of the cue that it moves to: it answers what is the answer for the current cue
pub record Steps {F : Type 0} (fader_stands_for : F → List Start → Type 0) (latest : F → ℕ)
    (show : Tables) (moment : ℕ) (before after : PlaybackState F) (result : Result ℕ NoMove)
    (answer_from : Option ℕ → Result ℕ NoMove) : Type 0 where
  pub answer : (moves : List Move) (stopped : Bool)
      → StandsFor fader_stands_for show before moves stopped
      → result ≡ answer_from (current_after (moves_by show stopped moment moves))
  pub moved : Moves fader_stands_for latest show moment None before after result

-- a playback moved on to a moment: the moves that are due by then are made, and whether it is
-- stopped follows from whether it was
pub record MovesOn {F : Type 0} (fader_stands_for : F → List Start → Type 0) (latest : F → ℕ)
    (show : Tables) (moment : ℕ) (before after : PlaybackState F)
    (stops : Bool → Bool) : Type 0 where
  pub stands : (moves : List Move) (stopped : Bool)
      → StandsFor fader_stands_for show before moves stopped
      → StandsFor fader_stands_for show after (moves_by show stopped moment moves) (stops stopped)
  pub latest_is : latest after.fader ≡ moment
