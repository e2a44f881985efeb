-- What is given of an answer, and what is kept of the answers so far.
use Rattle.std.specs.Prelude.{◌≡◌, ◌<◌, ◌^◌, List, [], ◌∷◌, ◌++◌, ℕ, codes, Option, Some, None}
use Rattle.console.specs.declared.reading.Reading.TheVariants.{At}
use Rattle.console.specs.Spelling.{reading_of}
use Rattle.live_input.specs.declared.given.Given.{Given}
use Rattle.live_input.specs.declared.given.GivenLine.{GivenLine}
use Rattle.live_input.specs.declared.given.Given.TheVariants.{Line, Where, Help, Refused, Until}
use Rattle.live_input.specs.declared.given.Given.TheVariants.{Over}
use Rattle.live_input.specs.declared.progress.Progress.{Progress}
use Rattle.live_input.specs.Night.{Answer, order, dim, close, tick, place, help, refusal, wait}
use Rattle.live_input.specs.Night.{over}
use Rattle.live_input.specs.Keys.{without_keys}
use Rattle.live_input.specs.Night.{behind_moment, next_tick, refused_front, stage, was_tick}

-- this line with its LF, and the moment and the call that it spells
pub record IsGiven (given : GivenLine) (line : List ℕ) : Type 0 where
  pub text_is : given.text.items ≡ line ++ 10 ∷ []
  pub spells : reading_of line ≡ At given.moment given.call
  pub below : given.moment < 2 ^ 48

-- a line and its call, the text of a refused line and why, or a moment
abbrev pub Tells : Given → Answer → Type 0
Tells (Line given) (order moment line) = IsGiven given (behind_moment moment (without_keys line))
Tells (Line given) (dim moment typed) = IsGiven given (behind_moment moment (codes "master 0"))
Tells (Line given) (close moment typed) = IsGiven given (behind_moment moment (codes "end"))
Tells (Line given) (tick moment) = IsGiven given (behind_moment moment (codes "tick"))
Tells (Where moment) (place asked line) = moment ≡ asked
Tells Help (help line) = Unit {0}
Tells (Refused text why) (refusal reason line) = (text.items ≡ refused_front line) × (why ≡ reason)
Tells (Until moment) (wait due) = moment ≡ due
Tells Over over = Unit {0}
Tells _ _ = ⊥

-- what the answers so far leave
pub record Leaves (progress : Progress) (answers : List Answer) : Type 0 where
  pub due_is : progress.due ≡ next_tick answers
  pub stage_is : progress.stage ≡ stage answers
  pub ticked_is : progress.ticked ≡ was_tick answers

-- what comes before any line, where something does
abbrev pub TellsFirst : Option Given → Option Answer → Type 0
TellsFirst (Some given) (Some answer) = Tells given answer
TellsFirst None None = Unit {0}
TellsFirst _ _ = ⊥

abbrev pub LeavesFirst : Progress → Option Answer → List Answer → Type 0
LeavesFirst progress (Some answer) given = Leaves progress (answer ∷ given)
LeavesFirst progress None given = Leaves progress given
