-- Laws over all nights: whatever bytes came, and whatever the clock said.
use Rattle.std.specs.Prelude.{◌≡◌, ◌↔◌, ◌⊎◌, ◌≤◌, ◌+◌, ◌++◌, ℕ, true, false, List, [], ◌∷◌}
use Rattle.std.specs.Prelude.{Option, Some}
use Rattle.std.specs.Prelude.{None, All, length, codes, flat_map, reverse}
use Rattle.std.specs.Prelude.{Bool, is_none, option_map, replicate, if◌then◌else◌}
use Rattle.std.specs.List.{filter_map, list_any}
use Rattle.ascii_text.specs.Text.{lines_of, words_of}
use Rattle.show_core.specs.Tables.{Tables}
use Rattle.master_core.specs.Settings.{Setting, grand_after}
use Rattle.desk_core.specs.Played as desk
use Rattle.desk_core.specs.Played.{Act, refusal}
use Rattle.desk_core.specs.declared.command.Command.TheVariants.{End, Master}
use Rattle.desk_core.specs.declared.instruction.Instruction.{Instruction}
use Rattle.desk_core.specs.declared.instruction.Instruction.TheVariants.{Plain}
use Rattle.console.specs.declared.call.Call.TheVariants.{Order, Tick}
use Rattle.console.specs.declared.reading.Reading.TheVariants.{At}
use Rattle.console.specs.Spelling.{instruction_of, is_malformed, reading_of}
use Rattle.live_input.specs.Night.{Answer, Happening, answer_to, answers, behind_moment, bytes_come}
use Rattle.live_input.specs.Night.{ends_with_input, lines_answered, lines_given, stage}
use Rattle.live_input.specs.Night.{asked, next_tick, is_light_down, is_over, unanswered_lines, now}
use Rattle.live_input.specs.Night.{to_line}
use Rattle.live_input.specs.Night.{was_tick}
use Rattle.live_input.specs.Night.{order, dim, close, tick, wait, over}
use Rattle.live_input.specs.declared.progress.Stage.{Stage}
use Rattle.live_input.specs.declared.progress.Stage.TheVariants.{On, Dark, Ended}
use Rattle.live_input.specs.Keys.{without_keys}
use Rattle.live_input.specs.Recall.{AreRecalled}
use Rattle.live_input.specs.Typed.{typed_of}

-- ---- lines

-- the bytes that were given, in their order: each line with its LF
abbrev pub lines_text : List (List ℕ) → List ℕ
lines_text lines = flat_map (λ line. line ++ 10 ∷ []) (reverse lines)

-- `play` takes each of these lines: none is malformed or has more than 200 bytes
pub record PlayTakes (lines : List (List ℕ)) : Type 0 where
  pub none_malformed : All (λ line. is_malformed (reading_of line) ≡ false) lines
  pub none_long : All (λ line. length line ≤ 200) lines

abbrev pub LinesAreFine : Type 0
LinesAreFine = (h : List Happening) → PlayTakes (lines_of (lines_text (lines_given (answers h))))

-- a line of this instruction at this moment
abbrev pub SpellsInstruction : Option Instruction → ℕ → List ℕ → Type 0
SpellsInstruction (Some instruction) moment line =
    reading_of (behind_moment moment line) ≡ At moment (Order instruction)
SpellsInstruction None moment line = ⊥

-- a line that is given spells the very instruction that was typed, `master 0`, `end` or a tick, at its
-- moment
abbrev pub IsSpelled : Answer → Type 0
IsSpelled (order moment line) =
    SpellsInstruction (instruction_of (words_of (without_keys line))) moment (without_keys line)
IsSpelled (dim moment typed) =
    reading_of (behind_moment moment (codes "master 0")) ≡ At moment (Order (Plain (Master 0)))
IsSpelled (close moment typed) =
    reading_of (behind_moment moment (codes "end")) ≡ At moment (Order (Plain End))
IsSpelled (tick moment) = reading_of (behind_moment moment (codes "tick")) ≡ At moment Tick
IsSpelled _ = Unit {0}

abbrev pub AnswersAreSpelled : Type 0
AnswersAreSpelled = (h : List Happening) (moment : ℕ) → IsSpelled (answer_to h moment)

-- ---- moments

-- each is at least so much later than the one before it
abbrev pub Rise : ℕ → List ℕ → Type 0
Rise gap [] = Unit {0}
Rise gap (newest ∷ []) = Unit {0}
Rise gap (newest ∷ newer ∷ older) = (newer + gap ≤ newest) × Rise gap (newer ∷ older)

-- the moment of a line that was given
abbrev pub moment_given : Answer → Option ℕ
moment_given (order moment line) = Some moment
moment_given (dim moment typed) = Some moment
moment_given (close moment typed) = Some moment
moment_given (tick moment) = Some moment
moment_given _ = None

-- the moment of a tick
abbrev pub tick_moment : Answer → Option ℕ
tick_moment (tick moment) = Some moment
tick_moment _ = None

-- in every night each such moment of an answer is at least so much later than the one before
abbrev pub AlwaysRise : ℕ → (Answer → Option ℕ) → Type 0
AlwaysRise gap moment = (h : List Happening) → Rise gap (filter_map moment (answers h))

abbrev pub MomentsNeverFall : Type 0
MomentsNeverFall = AlwaysRise 0 moment_given

abbrev pub TicksAreApart : Type 0
TicksAreApart = AlwaysRise 23 tick_moment

-- ---- the order of things

-- the lines that were answered are the first that were typed: each once, whole, in order
abbrev pub LinesComeInOrder : Type 0
LinesComeInOrder =
    (h : List Happening) → (later : List (List ℕ))
    × ((typed_of (bytes_come h)).lines ≡ lines_answered (answers h) ++ later)

-- it waits only where each line that was typed was answered
abbrev pub WaitsComeLast : Type 0
WaitsComeLast =
    (h : List Happening) (moment n : ℕ) → answer_to h moment ≡ wait n
    → (typed_of (bytes_come h)).lines ≡ lines_answered (answers h)

-- the night is not over, and is not to be closed now
abbrev pub IsOn : List Answer → Type 0
IsOn given = (is_over given ≡ false) × (is_light_down (stage given) ≡ false)

-- a tick that is due goes before whatever lines wait, where the answer before was none
abbrev pub TicksGoFirst : Type 0
TicksGoFirst =
    (h : List Happening) (moment : ℕ) → IsOn (answers h) → was_tick (answers h) ≡ false
    → next_tick (answers h) ≤ now (asked moment ∷ h)
    → answer_to h moment ≡ tick (now (asked moment ∷ h))

-- a line that waits is the answer behind each tick: ticks that are late keep no line from its turn
abbrev pub LinesFollowTicks : Type 0
LinesFollowTicks =
    (h : List Happening) (moment : ℕ) (line : List ℕ) (later : List (List ℕ)) → IsOn (answers h)
    → was_tick (answers h) ≡ true → unanswered_lines (answers h) h ≡ line ∷ later
    → answer_to h moment ≡ to_line (answers h) (now (asked moment ∷ h)) line

abbrev pub IsTick : Answer → Type 0
IsTick (tick moment) = Unit {0}
IsTick _ = ⊥

-- nothing is asked meanwhile: bytes come, or the input ends
abbrev pub NothingIsAsked : List Happening → Type 0
NothingIsAsked [] = Unit {0}
NothingIsAsked (asked moment ∷ older) = ⊥
NothingIsAsked (_ ∷ older) = NothingIsAsked older

-- where a tick is due when it is asked what is next, that is the answer, or the answer to what is
-- asked then, until the night is over: between the moment at which a tick is due and the tick there
-- is at most one line, and no other tick
abbrev pub TicksAreNext : Type 0
TicksAreNext =
    (h meanwhile : List Happening) (moment next : ℕ) → NothingIsAsked meanwhile
    → is_over (answers h) ≡ false → next_tick (answers h) ≤ now (asked moment ∷ h)
    → IsTick (answer_to h moment) ⊎ IsTick (answer_to (meanwhile ++ asked moment ∷ h) next)

-- a night begins to end where nobody typed it only if it ends with its input and that ended:
-- whatever else ends, the light holds
abbrev pub EndsAreAsked : Type 0
EndsAreAsked =
    (h : List Happening) (moment n : ℕ) → answer_to h moment ≡ dim n None
    → ends_with_input h ≡ true

-- nothing comes any more exactly where there were three ticks after `end`, and there are never more
abbrev pub NightsEnd : Type 0
NightsEnd =
    (h : List Happening) (moment : ℕ)
    → (answer_to h moment ≡ over) ↔ (stage (answers h) ≡ Ended 3)

-- ---- a night that is given again

-- each record of a live night is given again: whatever happened, the lines that it gave are a
-- record that another night takes up whole
abbrev pub RecordsAreRecalled : Type 0
RecordsAreRecalled = (h : List Happening) → AreRecalled (lines_given (answers h))

-- ---- how a night ends

-- what was given, without moments, the newest first
abbrev pub with_words : Answer → List (List ℕ) → List (List ℕ)
with_words (order moment line) given = without_keys line ∷ given
with_words (dim moment typed) given = codes "master 0" ∷ given
with_words (close moment typed) given = codes "end" ∷ given
with_words (tick moment) given = codes "tick" ∷ given
with_words _ given = given

abbrev pub words_given : List Answer → List (List ℕ)
words_given [] = []
words_given (answer ∷ older) = with_words answer (words_given older)

-- `leave` was typed
abbrev pub is_left : Answer → Bool
is_left (close moment (Some line)) = true
is_left _ = false

abbrev pub was_left : List Answer → Bool
was_left = list_any is_left

-- so many ticks
abbrev pub ticks : ℕ → List (List ℕ)
ticks count = replicate count (codes "tick")

abbrev pub StartsWith : List (List ℕ) → List (List ℕ) → Type 0
StartsWith front given = (older : List (List ℕ)) × (given ≡ front ++ older)

-- what was given last: from `master 0` on nothing but four ticks, `end` and three ticks; where the
-- night was left, from `end` on nothing but three ticks
abbrev pub IsEnding : Stage → Bool → List (List ℕ) → Type 0
IsEnding On left given = Unit {0}
IsEnding (Dark count) left given =
    (count ≤ 4) × StartsWith (ticks count ++ codes "master 0" ∷ []) given
IsEnding (Ended count) true given = (count ≤ 3) × StartsWith (ticks count ++ codes "end" ∷ []) given
IsEnding (Ended count) false given =
    (count ≤ 3)
    × StartsWith (ticks count ++ codes "end" ∷ ticks 4 ++ codes "master 0" ∷ []) given

abbrev pub EndsAreWhole : Type 0
EndsAreWhole =
    (h : List Happening)
    → IsEnding (stage (answers h)) (was_left (answers h)) (words_given (answers h))

-- ---- a desk that plays it

-- the call that a line which is given spells
abbrev pub act_in : Answer → Option Act
act_in (order moment line) =
    option_map (λ instruction. record { moment = moment; call = desk.order instruction })
    (instruction_of (words_of (without_keys line)))
act_in (dim moment typed) = Some (record { moment = moment; call = desk.order (Plain (Master 0)) })
act_in (close moment typed) = Some (record { moment = moment; call = desk.order (Plain End) })
act_in (tick moment) = Some (record { moment = moment; call = desk.tick })
act_in _ = None

-- one more, where the desk does not refuse it
abbrev pub acts_with : Tables → Option Act → List Act → List Act
acts_with show None history = history
acts_with show (Some act) history =
    if is_none (refusal show history act) then act ∷ history else history

-- what a desk accepts of a night
abbrev pub accepted_acts : Tables → List Answer → List Act
accepted_acts show [] = []
accepted_acts show (answer ∷ older) = acts_with show (act_in answer) (accepted_acts show older)

-- the ticks since `end`; none before it
abbrev pub since_end : Stage → Option ℕ
since_end (Ended count) = Some count
since_end _ = None

-- a desk of any show accepts `end`, and each tick. So the three ticks after it end its streams
abbrev pub EndsAreAccepted : Type 0
EndsAreAccepted =
    (show : Tables) (h : List Happening)
    → desk.ticks_since_end (accepted_acts show (answers h)) ≡ since_end (stage (answers h))

-- from `master 0` on the grand master of a desk of any show is at 0, up to `end`: it accepts that,
-- and nothing sets a master after it
abbrev pub IsDim : Stage → List Setting → Type 0
IsDim (Dark count) settings = grand_after settings ≡ 0
IsDim _ settings = Unit {0}

abbrev pub EndsAreDark : Type 0
EndsAreDark =
    (show : Tables) (h : List Happening)
    → IsDim (stage (answers h)) (desk.settings (accepted_acts show (answers h)))

abbrev pub TicksAreAccepted : Type 0
TicksAreAccepted =
    (show : Tables) (h : List Happening) (moment n : ℕ) → answer_to h moment ≡ tick n
    → refusal show (accepted_acts show (answers h)) (record { moment = n; call = desk.tick }) ≡ None
