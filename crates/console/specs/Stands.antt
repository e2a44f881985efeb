-- What a console keeps, against its history.
use Rattle.std.specs.Prelude.{◌≡◌, List, ◌∷◌, None, All, ℕ}
use Rattle.fade_core.specs.Level.{Start}
use Rattle.desk_core.specs.DeskState.{DeskState}
use Rattle.desk_core.specs.declared.answer.Ticked.{Ticked}
use Rattle.desk_core.specs.Played.{Act, tick_at, ticks_since_end, refusal, tick_answer}
use Rattle.desk_core.specs.Stands as desk
use Rattle.sacn_source.specs.Kept.{Lane}
use Rattle.sacn_source.specs.Stands as sender
use Rattle.console.specs.ConsoleState.{ConsoleState}
use Rattle.console.specs.Streams.{Production, offers_of, terminations_of, universes_of}

-- a sender's stream of a universe has the offers and terminations of a history
abbrev pub HasStream : Production → List Lane → List Act → ℕ → Type 0
HasStream production lanes history universe = sender.StandsFor production.source lanes universe
    (offers_of production universe history) (terminations_of history)

-- a sender has the streams of all universes, and no others
pub record HasStreams (production : Production) (lanes : List Lane) (history : List Act)
    : Type 0 where
  pub universes_are : sender.lane_universes lanes ≡ universes_of production
  pub streams : All (HasStream production lanes history) (universes_of production)

-- a console stands for a history of a production: its desk does, and its sender has the streams
pub record StandsFor {F : Type 0} (fader_stands_for : F → List Start → Type 0)
    (production : Production)
    (console : ConsoleState F) (history : List Act) : Type 0 where
  pub desk_stands : desk.StandsFor fader_stands_for production.show production.base
      console.desk history
  pub streams_stand : HasStreams production console.sender history

-- a console stands for some history of a production
abbrev pub HasHistory : {F : Type 0} → (F → List Start → Type 0) → ConsoleState F → Type 0
HasHistory fader_stands_for console = (production : Production) × (history : List Act)
    × StandsFor fader_stands_for production console history

-- this holds of each history that a console stands for, and of its production
abbrev pub OfEach : {F : Type 0} → (F → List Start → Type 0) → ConsoleState F
    → (Production → List Act → Type 0) → Type 0
OfEach fader_stands_for console fact = (production : Production) (history : List Act)
    → StandsFor fader_stands_for production console history → fact production history

-- an act leads from one console to another: the new one stands for each history of the old one,
-- and the act behind it
abbrev pub Leads : {F : Type 0} → (F → List Start → Type 0) → Act → ConsoleState F
    → ConsoleState F → Type 0
Leads fader_stands_for act old new = OfEach fader_stands_for old
    (λ production history. StandsFor fader_stands_for production new (act ∷ history))

-- in the middle of an accepted tick that the desk answered so: it has taken it
pub record IsMidTick {F : Type 0} (fader_stands_for : F → List Start → Type 0)
    (production : Production)
    (state : DeskState F) (older : List Act) (moment : ℕ) (answer : Ticked) : Type 0 where
  pub desk_stands : desk.StandsFor fader_stands_for production.show production.base state
      (tick_at moment ∷ older)
  pub accepted : refusal production.show older (tick_at moment) ≡ None
  pub answer_is : answer ≡ tick_answer (ticks_since_end older)
