-- Where a night on its way stands.
-- Of use inside the crate: what its public calls answer is said without these.
use Rattle.std.specs.Prelude.{◌≡◌, ◌≤◌, ◌++◌, ◌∷◌, [], ℕ, Bool, true, false, List, length}
use Rattle.devices.specs.Send.{Send, failures_of}
use Rattle.fade_core.specs.Level.{Start}
use Rattle.desk_core.specs.Played.{Act}
use Rattle.sacn_source.specs.declared.offered.Offered.{Offered}
use Rattle.console.specs.Offering.{AreOffered}
use Rattle.console.specs.Stands as console
use Rattle.console.specs.Streams.{Production}
use Rattle.console.specs.Spelling.{reading_of}
use Rattle.cmd_play.specs.declared.performance.Answer.{Answer}
use Rattle.cmd_play.specs.declared.performance.Answer.TheVariants.{Refused}
use Rattle.cmd_play.specs.Run.{dues_after, history_of}
use Rattle.live_input.specs.Night.{Happening, answers, lines_given}
use Rattle.live_input.specs.Kept.{InputState}
use Rattle.live_input.specs.Laws.{NothingIsAsked}
use Rattle.live_input.specs.Stands as live
use Rattle.cmd_live.specs.declared.night.Night.{Night}
use Rattle.cmd_live.specs.Booth.{BoothState, Deed, with_fault, is_told, kept_at, keys, shown_at}
use Rattle.cmd_live.specs.Night.{Lives, Trace, trace_of}
use Rattle.cmd_live.specs.Shown.{TakesText, shown_of}

abbrev pub accepts_call : Answer → Bool
accepts_call (Refused why) = false
accepts_call _ = true

-- it showed, and recorded nothing, when the link had been offered this
abbrev pub AreShown : List Send → List Deed → Type 0
AreShown offered [] = Unit {0}
AreShown offered (shown_at at ∷ older) = (at ≡ offered) × AreShown offered older
AreShown offered (kept_at at ∷ older) = ⊥

-- a text was shown when the link had been offered this, unless a call failed meanwhile, and nothing
-- else was done
pub record ShowsText (offered : List Send) (before after : BoothState)
    (text : List ℕ) : Type 0 where
  pub takes : TakesText before.shown after.shown text
  pub deeds : List Deed
  pub are_shown : AreShown offered deeds
  pub rest : after ≡ record before { shown = after.shown; deeds = deeds ++ before.deeds }

-- a line was carried out after a history: it was recorded, then the link was offered what is due at
-- it, and then it was shown
pub record BoothCarriesOut (p : Production) (history : List Act) (line : List ℕ)
    (before after : Trace)
    (lost : ℕ) : Type 0 where
  pub sends : List Send
  pub offers : List (ℕ × Offered)
  pub are_offered : AreOffered p.source (dues_after p history (reading_of line)) sends offers
  pub begun_is : after.booth.begun ≡ before.booth.begun
  pub happened_is : after.booth.happened ≡ before.booth.happened
  pub offered_is : after.offered ≡ before.offered ++ sends
  pub kept : TakesText before.booth.kept after.booth.kept (line ++ 10 ∷ [])
  pub shown : TakesText before.booth.shown after.booth.shown (shown_of p history (reading_of line)
      offers)
  pub answers : List Deed
  pub are_shown : AreShown after.offered answers
  pub deeds_are : after.booth.deeds ≡ answers ++ kept_at before.offered ∷ before.booth.deeds
  pub told_is : after.booth.told ≡ before.booth.told
  pub waited_is : after.booth.waited ≡ before.booth.waited
  pub faults_are : after.booth.faults ≡ before.booth.faults
  pub lost_is : lost ≡ failures_of sends

-- a night on its way stands for what happened to its input: its console has carried out the lines
-- that the input gave
pub record StandsFor {F : Type 0} (fader_stands_for : F → List Start → Type 0)
    (p : Production) (night : Night F) (happened : List Happening) : Type 0 where
  pub console_stands : console.StandsFor fader_stands_for p night.console
      (history_of p.show (lines_given (answers happened)))
  pub input_stands : live.StandsFor night.input happened

-- a night stands for something that happened to its input, in a production
abbrev pub HasHistory : {F : Type 0} → (F → List Start → Type 0) → Night F → Type 0
HasHistory fader_stands_for night = (p : Production) × (happened : List Happening)
    × StandsFor fader_stands_for p night happened

-- this holds of all that a night stands for, and of its production
abbrev pub OfEach : {F : Type 0} → (F → List Start → Type 0) → Night F
    → (Production → List Happening → Type 0) → Type 0
OfEach fader_stands_for night fact = (p : Production) (happened : List Happening)
    → StandsFor fader_stands_for p night happened → fact p happened

-- no packet of it was lost either: so it can be played
abbrev pub IsPlayable : {F : Type 0} → (F → List Start → Type 0) → Night F → Type 0
IsPlayable fader_stands_for night = HasHistory fader_stands_for night × (night.lost ≡ 0)

-- a night has gone on: it stands for what happened since, behind what happened before; and where
-- its devices tell, it has lived through all of that
pub record GoesOn {F : Type 0} (fader_stands_for : F → List Start → Type 0)
    (tell : Type 0) (old new : Night F) (before after : Trace) : Type 0 where
  pub since : List Happening
  pub stands : OfEach fader_stands_for old (λ p happened.
      StandsFor fader_stands_for p new (since ++ happened))
  pub lived : tell → (p : Production) (first happened : List Happening) (start : Trace)
      → StandsFor fader_stands_for p old (happened ++ first)
      → Lives p first happened start before old.lost
      → Lives p first (since ++ happened) start after new.lost

-- it has gone on, and then the clock or a wait failed
pub record BreaksOff {F : Type 0} (fader_stands_for : F → List Start → Type 0)
    (tell : Type 0) (old new : Night F) (before after : Trace) : Type 0 where
  pub middle : BoothState
  pub goes : GoesOn fader_stands_for tell old new before (trace_of middle after.offered)
  pub fails_at : tell → after.booth ≡ with_fault middle

-- it has gone on, and was asked what is next for as often as it can be
pub record WearsOut {F : Type 0} (fader_stands_for : F → List Start → Type 0)
    (tell : Type 0) (old new : Night F) (before after : Trace) : Type 0 where
  pub goes : GoesOn fader_stands_for tell old new before after
  pub turned : 18446744073709551615 ≤ length goes.since

-- that keys were left out is told where they were
abbrev pub told_keys : Bool → BoothState → BoothState
told_keys true state = is_told keys state
told_keys false state = state

-- an input waited: it stands for what happened since, and nothing else was done
pub record Waits (tells : Type 0) (old new : InputState) (before after : BoothState) : Type 0 where
  pub since : List Happening
  pub none_asked : NothingIsAsked since
  pub stands : (happened : List Happening) → live.StandsFor old happened
      → live.StandsFor new (since ++ happened)
  pub did : tells → after ≡ record before { happened = since ++ before.happened }
