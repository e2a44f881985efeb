-- A night that follows a main, by what happened where the main is watched. Lists have the newest
-- first.
use Rattle.std.specs.Prelude.{◌≡◌, ℕ, Bool, true, false, List, [], ◌∷◌, ◌++◌, nat_eq}
use Rattle.std.specs.Prelude.{Option, Some, None, codes, if◌then◌else◌}
use Rattle.std.specs.Duration.{as_nanos}
use Rattle.ascii_text.specs.Text.{words_of}
use Rattle.live_machine.specs.declared.input.Came.TheVariants.{TypedEnd}
use Rattle.night_record.specs.Asked.{asked_by}
use Rattle.night_record.specs.Silence.{is_record_silent}
use Rattle.night_record.specs.declared.asked.Asked.{Asked}
use Rattle.night_record.specs.declared.asked.Asked.TheVariants as asked
use Rattle.cmd_live.specs.declared.main_console.Led.{Led}
use Rattle.cmd_live.specs.declared.main_console.Led.TheVariants.{Line, Where, End}
use Rattle.cmd_live.specs.Told.{lines_told}
use Rattle.cmd_live.specs.declared.backup.Ending.{Ending}
use Rattle.cmd_live.specs.declared.backup.Ending.TheVariants as ending
use Rattle.cmd_live.specs.declared.main_watch.MainDeed.{MainDeed}
use Rattle.cmd_live.specs.declared.main_watch.MainDeed.TheVariants.{Kept, Missing, Refused}
use Rattle.cmd_live.specs.declared.main_watch.MainDeed.TheVariants.{Helped, Reminded}
use Rattle.cmd_live.specs.declared.main_watch.MainEvent.{MainEvent}
use Rattle.cmd_live.specs.declared.main_watch.MainEvent.TheVariants as event

-- a comment of a record, which begins with !
abbrev pub is_comment : List ℕ → Bool
is_comment [] = false
is_comment (first ∷ more) = nat_eq first 33

-- the following began
abbrev pub following_began : List MainEvent → Bool
following_began [] = false
following_began (event.Began ∷ older) = true
following_began (_ ∷ older) = following_began older

-- what is owed to a typed line, by what it asks for
abbrev pub deeds_for_asked : Option Asked → MainDeed → List MainDeed
deeds_for_asked (Some asked.Help) refusal = Helped ∷ []
deeds_for_asked (Some asked.Other) refusal = refusal ∷ []
deeds_for_asked _ refusal = []

-- what is owed to what happened: a line of the main's record is kept, unless it is a comment, which
-- says that lines are missing there; a typed line that asks for help gets it, and one that asks for
-- nothing else is refused; and an end of the input that was typed gets a reminder
abbrev pub deeds_for : MainEvent → List MainDeed
deeds_for (event.Came line) = (if is_comment line.items then Missing line else Kept line) ∷ []
deeds_for (event.Typed line) = deeds_for_asked (asked_by (words_of line.items)) (Refused line)
deeds_for (event.Heard TypedEnd) = Reminded ∷ []
deeds_for _ = []

abbrev pub deeds_due : List MainEvent → List MainDeed
deeds_due [] = []
deeds_due (event ∷ older) = deeds_for event ++ deeds_due older

abbrev pub deeds_done : List MainEvent → List MainDeed
deeds_done [] = []
deeds_done (event.Did deed ∷ older) = deed ∷ deeds_done older
deeds_done (_ ∷ older) = deeds_done older

-- what was owed was done, each once and in order, and nothing else
abbrev pub AreDone : List MainEvent → Type 0
AreDone events = deeds_done events ≡ deeds_due events

-- what a typed line asks the night for
abbrev pub led_by_asked : Option Asked → Option Led
led_by_asked (Some asked.Take) = Some End
led_by_asked (Some asked.Where) = Some Where
led_by_asked _ = None

-- what the night is told by what happened: a line of the main once it is kept; `where`; and an end
-- where `take` was typed, where the lines that stood there at the start are through, where the main
-- was silent for its patience, and where it cannot be followed
abbrev pub led_at : ℕ → MainEvent → List MainEvent → Option Led
led_at patience (event.Did (Kept line)) older = Some (Line line)
led_at patience (event.Typed line) older = led_by_asked (asked_by (words_of line.items))
led_at patience (event.Looked false) older = if following_began older then None else Some End
led_at patience (event.Passed passed) older =
    if is_record_silent (as_nanos passed) patience then Some End else None
led_at patience event.ClockFailed older = Some End
led_at patience event.Unreadable older = Some End
led_at patience event.Gone older = Some End
led_at patience event.Deaf older = Some End
led_at patience _ older = None

-- one more was told, or nothing
abbrev pub told_more : Option Led → List Led → List Led
told_more (Some led) older = led ∷ older
told_more None older = older

abbrev pub told_by_main : ℕ → List MainEvent → List Led
told_by_main patience [] = []
told_by_main patience (event ∷ older) =
    told_more (led_at patience event older) (told_by_main patience older)

-- nothing typed stood there when a line of the main's record was taken
abbrev pub IsTypedFirst : List MainEvent → Type 0
IsTypedFirst [] = Unit {0}
IsTypedFirst (event.Came line ∷ event.NothingTyped ∷ older) = IsTypedFirst older
IsTypedFirst (event.Came line ∷ older) = ⊥
IsTypedFirst (_ ∷ older) = IsTypedFirst older

-- why a following ends, by what happened last
abbrev pub EndsBy : ℕ → Ending → List MainEvent → Type 0
EndsBy patience ending.Taken (event.Typed line ∷ older) =
    asked_by (words_of line.items) ≡ Some asked.Take
EndsBy patience ending.Silent (event.Looked false ∷ older) = following_began older ≡ false
EndsBy patience ending.Silent (event.Passed passed ∷ older) =
    is_record_silent (as_nanos passed) patience ≡ true
EndsBy patience ending.Silent (event.ClockFailed ∷ older) = Unit {0}
EndsBy patience ending.Gone (event.Unreadable ∷ older) = Unit {0}
EndsBy patience ending.Gone (event.Gone ∷ older) = Unit {0}
EndsBy patience ending.Gone (event.Deaf ∷ older) = Unit {0}
EndsBy patience _ _ = ⊥

-- why a following ended, in words
abbrev pub ending_words : Ending → List ℕ
ending_words ending.Taken = codes "the following was ended"
ending_words ending.Silent = codes "the main is silent"
ending_words ending.Gone = codes "the main's record is gone"

-- no line that stands there is left, unless the following was ended
abbrev pub NoneIsLeft : Ending → List (List ℕ) → Type 0
NoneIsLeft ending.Taken left = Unit {0}
NoneIsLeft _ left = left ≡ []

-- what happened led to this, or to nothing
pub record LedTo (patience : ℕ) (led : Option Led) (ending : Ending) (left : List (List ℕ))
    (old new : List MainEvent) : Type 0 where
  pub told : told_by_main patience new ≡ told_more led (told_by_main patience old)
  pub done : AreDone old → AreDone new
  pub first : IsTypedFirst old → IsTypedFirst new
  pub ends : led ≡ Some End → EndsBy patience ending new × NoneIsLeft ending left

-- the lines that were kept in the night's own record
abbrev pub kept_lines : List MainDeed → List (List ℕ)
kept_lines [] = []
kept_lines (Kept line ∷ older) = line.items ∷ kept_lines older
kept_lines (_ ∷ older) = kept_lines older

-- the lines that were told as saying that lines are missing
abbrev pub missing_lines : List MainDeed → List (List ℕ)
missing_lines [] = []
missing_lines (Missing line ∷ older) = line.items ∷ missing_lines older
missing_lines (_ ∷ older) = missing_lines older

-- the lines that came of the main's record, without its comments
abbrev pub lines_to_follow : List MainEvent → List (List ℕ)
lines_to_follow [] = []
lines_to_follow (event.Came line ∷ older) =
    if is_comment line.items then lines_to_follow older else line.items ∷ lines_to_follow older
lines_to_follow (_ ∷ older) = lines_to_follow older

-- the comments that came of it
abbrev pub comments_in : List MainEvent → List (List ℕ)
comments_in [] = []
comments_in (event.Came line ∷ older) =
    if is_comment line.items then line.items ∷ comments_in older else comments_in older
comments_in (_ ∷ older) = comments_in older

-- over a whole following the lines that the night is told are those that its own record has; and
-- they are those of the main's record, each once and in order, without its comments, each of which
-- was told
pub record FollowsAll (patience : ℕ) (events : List MainEvent) : Type 0 where
  pub kept : lines_told (told_by_main patience events) ≡ kept_lines (deeds_done events)
  pub lines : lines_told (told_by_main patience events) ≡ lines_to_follow events
  pub comments : missing_lines (deeds_done events) ≡ comments_in events

abbrev pub FollowingLaw : Type 0
FollowingLaw = (patience : ℕ) (events : List MainEvent) → AreDone events
    → FollowsAll patience events
