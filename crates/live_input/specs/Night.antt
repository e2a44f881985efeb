-- What a live input answers, by what happened to it. Happenings and answers have the newest first.
use Rattle.std.specs.Prelude.{ℕ, ◌+◌, ◌*◌, ◌/◌, max, min, nat_le, Bool, true, false}
use Rattle.std.specs.Prelude.{◌&&◌, ◌||◌, not, if◌then◌else◌, List, [], ◌∷◌, ◌++◌, length, drop}
use Rattle.std.specs.Prelude.{Option, Some, None, codes, decimal, map, take}
use Rattle.std.specs.Prelude.{unwrap_or}
use Rattle.std.specs.Option.{option_map_or}
use Rattle.ascii_text.specs.Forms.{same_word}
use Rattle.ascii_text.specs.Text.{words_of}
use Rattle.console.specs.Spelling.{instruction_of}
use Rattle.desk_core.specs.declared.command.Command.TheVariants.{End}
use Rattle.desk_core.specs.declared.instruction.Instruction.{Instruction}
use Rattle.desk_core.specs.declared.instruction.Instruction.TheVariants.{Plain}
use Rattle.live_input.specs.declared.progress.Stage.{Stage}
use Rattle.live_input.specs.declared.progress.Stage.TheVariants.{On, Dark, Ended}
use Rattle.live_input.specs.declared.reason.Reason.{Reason}
use Rattle.live_input.specs.declared.reason.Reason.TheVariants.{Long, Ending}
use Rattle.live_input.specs.declared.request.Request.{Request}
use Rattle.live_input.specs.declared.request.Request.TheVariants.{Nothing, Where, Help, Leave}
use Rattle.live_input.specs.declared.request.Request.TheVariants.{Finish, Order}
use Rattle.live_input.specs.Keys.{has_keys, without_keys}
use Rattle.live_input.specs.Reasons.{refusal_reason}
use Rattle.live_input.specs.Typed.{typed_of}

-- what happens to it: bytes came; the input ended, and whether the night is to end with it; it was
-- asked at a moment of the clock what is next
pub data Happening : Type 0 where
  came : List ℕ → Happening
  closed : Bool → Happening
  asked : ℕ → Happening

-- what it answers: the line of a command, at a moment; `master 0`, with which a night begins to
-- end, and `end`, each with the typed line that it answers, where one was typed; a tick; `where`
-- and `help`, to which the device answers; a line that is refused, and why; that nothing is due
-- before a moment; that nothing comes any more
pub data Answer : Type 0 where
  order : ℕ → List ℕ → Answer
  dim : ℕ → Option (List ℕ) → Answer
  close : ℕ → Option (List ℕ) → Answer
  tick : ℕ → Answer
  place : ℕ → List ℕ → Answer
  help : List ℕ → Answer
  refusal : Reason → List ℕ → Answer
  wait : ℕ → Answer
  over : Answer

-- ---- what the answers so far leave

-- words behind a moment
abbrev pub behind_moment : ℕ → List ℕ → List ℕ
behind_moment moment words = decimal moment ++ codes " " ++ words

-- the lines that were given, without their LF
abbrev pub with_given : Answer → List (List ℕ) → List (List ℕ)
with_given (order moment line) lines = behind_moment moment (without_keys line) ∷ lines
with_given (dim moment typed) lines = behind_moment moment (codes "master 0") ∷ lines
with_given (close moment typed) lines = behind_moment moment (codes "end") ∷ lines
with_given (tick moment) lines = behind_moment moment (codes "tick") ∷ lines
with_given _ lines = lines

abbrev pub lines_given : List Answer → List (List ℕ)
lines_given [] = []
lines_given (answer ∷ older) = with_given answer (lines_given older)

-- the typed line that it answers
abbrev pub typed_line : Answer → Option (List ℕ)
typed_line (order moment line) = Some line
typed_line (dim moment typed) = typed
typed_line (close moment typed) = typed
typed_line (place moment line) = Some line
typed_line (help line) = Some line
typed_line (refusal why line) = Some line
typed_line _ = None

abbrev pub with_typed_line : List (List ℕ) → Option (List ℕ) → List (List ℕ)
with_typed_line lines None = lines
with_typed_line lines (Some line) = lines ++ line ∷ []

-- the typed lines that were answered, the oldest first
abbrev pub with_answered : List (List ℕ) → Answer → List (List ℕ)
with_answered lines answer = with_typed_line lines (typed_line answer)

abbrev pub lines_answered : List Answer → List (List ℕ)
lines_answered [] = []
lines_answered (answer ∷ older) = with_answered (lines_answered older) answer

-- a tick more, where ticks are counted
abbrev pub after_tick : Stage → Stage
after_tick On = On
after_tick (Dark ticks) = Dark (ticks + 1)
after_tick (Ended ticks) = Ended (ticks + 1)

-- how far the night is: it is dark from `master 0` on, and ended from `end` on, by so many ticks
abbrev pub stage_by : Answer → Stage → Stage
stage_by (dim moment typed) On = Dark 0
stage_by (close moment typed) On = Ended 0
stage_by (close moment typed) (Dark ticks) = Ended 0
stage_by (tick moment) stage = after_tick stage
stage_by _ stage = stage

abbrev pub stage : List Answer → Stage
stage [] = On
stage (answer ∷ older) = stage_by answer (stage older)

abbrev pub is_on : Stage → Bool
is_on On = true
is_on _ = false

-- the light was down for four ticks: a receiver that loses three packets in a row has seen it
abbrev pub is_light_down : Stage → Bool
is_light_down (Dark ticks) = nat_le 4 ticks
is_light_down _ = false

abbrev pub has_ended : Stage → Bool
has_ended (Ended ticks) = true
has_ended _ = false

-- three ticks after `end`
abbrev pub is_through : Stage → Bool
is_through (Ended ticks) = nat_le 3 ticks
is_through _ = false

-- when the tick after a tick of this moment is due: at the next multiple of 25, and not before
-- 23 ms have passed. So a late one is made at once, and those that were missed are not made up for
abbrev pub due_after : ℕ → ℕ
due_after moment = max (25 * (moment / 25 + 1)) (moment + 23)

abbrev pub due_by : Answer → ℕ → ℕ
due_by (tick moment) due = due_after moment
due_by _ due = due

-- when the next tick is due: the first at once
abbrev pub next_tick : List Answer → ℕ
next_tick [] = 0
next_tick (answer ∷ older) = due_by answer (next_tick older)

-- ---- the next answer, after those given

-- this word alone
abbrev pub is_only : List ℕ → List (List ℕ) → Bool
is_only text (word ∷ []) = same_word word text
is_only text _ = false

abbrev pub asks_help : List (List ℕ) → Bool
asks_help words = is_only (codes "help") words || is_only (codes "?") words

-- a command
abbrev pub instruction_asked : List (List ℕ) → Option Instruction → Request
instruction_asked words None = Nothing (refusal_reason words)
instruction_asked words (Some (Plain End)) = Finish
instruction_asked words (Some instruction) = Order instruction

-- `leave`, which ends the night and leaves the light to another console, or a command
abbrev pub order_asked : List (List ℕ) → Request
order_asked words =
    if is_only (codes "leave") words then Leave else instruction_asked words (instruction_of words)

-- what words ask for: `where` and `help` at any time, all else before an `end`
abbrev pub words_asked : Bool → List (List ℕ) → Request
words_asked on words =
    if is_only (codes "where") words then Where
    else (if asks_help words then Help
    else (if on then order_asked words else Nothing Ending))

-- what a line asks for: nothing where it has more than 200 bytes with its moment
abbrev pub request_of : Bool → ℕ → List ℕ → Request
request_of on moment line =
    if nat_le (length (behind_moment moment line)) 200
    then words_asked on (words_of (without_keys line)) else Nothing Long

-- `end` brings the light down first; any other command is given as it is
abbrev pub to_request : ℕ → List ℕ → Request → Answer
to_request moment line (Nothing why) = refusal why line
to_request moment line Where = place moment line
to_request moment line Help = help line
to_request moment line Leave = close moment (Some line)
to_request moment line Finish = dim moment (Some line)
to_request moment line (Order instruction) = order moment line

abbrev pub to_line : List Answer → ℕ → List ℕ → Answer
to_line given moment line =
    to_request moment line (request_of (is_on (stage given)) moment line)

abbrev pub ticked_by : Answer → Bool → Bool
ticked_by (tick moment) before = true
ticked_by over before = before
ticked_by _ before = false

-- the answer before was a tick; and so at first, so that a line goes before the first tick too: a
-- night may begin with a cue at full
abbrev pub was_tick : List Answer → Bool
was_tick [] = true
was_tick (answer ∷ older) = ticked_by answer (was_tick older)

-- a key that sends a sequence was pressed for the line that it answers
abbrev pub keys_by : Answer → Bool → Bool
keys_by over before = before
keys_by answer before = option_map_or has_keys (typed_line answer) false

-- such keys were left out of the line that was answered last
abbrev pub ignored_keys : List Answer → Bool
ignored_keys [] = false
ignored_keys (answer ∷ older) = keys_by answer (ignored_keys older)

-- a tick is due, and the answer before was no tick. Behind a tick one line has its turn: where the
-- work of a tick takes as long as from tick to tick, an `end` is still answered
abbrev pub goes_first : List Answer → ℕ → Bool
goes_first given moment = nat_le (next_tick given) moment && not (was_tick given)

-- what comes before any line that was typed
abbrev pub before_lines : List Answer → ℕ → Option Answer
before_lines given moment =
    if is_light_down (stage given) then Some (close moment None)
    else (if goes_first given moment then Some (tick moment) else None)

-- where each typed line was answered: the night ends with its input, which ended without an `end`
abbrev pub by_itself : List Answer → Bool → ℕ → Answer
by_itself given at_end moment =
    if is_on (stage given) && at_end then dim moment None
    else (if nat_le (next_tick given) moment then tick moment else wait (next_tick given))

-- the first typed line that was not answered
abbrev pub to_lines : List (List ℕ) → List Answer → Bool → ℕ → Answer
to_lines [] given at_end moment = by_itself given at_end moment
to_lines (line ∷ lines) given at_end moment = to_line given moment line

-- three ticks after `end` nothing comes any more
abbrev pub is_over : List Answer → Bool
is_over given = is_through (stage given)

-- ---- what happened

-- the bytes that came: the end of the input ends a line as LF does
abbrev pub bytes_come : List Happening → List ℕ
bytes_come [] = []
bytes_come (came bytes ∷ older) = bytes_come older ++ bytes
bytes_come (closed ends ∷ older) = bytes_come older ++ 10 ∷ []
bytes_come (asked moment ∷ older) = bytes_come older

-- the input ended, and the night ends with it
abbrev pub ends_with_input : List Happening → Bool
ends_with_input [] = false
ends_with_input (closed ends ∷ older) = ends || ends_with_input older
ends_with_input (_ ∷ older) = ends_with_input older

-- the clock, which never falls; 0 at first, and below 2^48 as a console's moments are
abbrev pub now : List Happening → ℕ
now [] = 0
now (asked moment ∷ older) = max (now older) (min moment 281474976710655)
now (_ ∷ older) = now older

-- the typed lines that were not answered
abbrev pub unanswered_lines : List Answer → List Happening → List (List ℕ)
unanswered_lines given older =
    drop (length (lines_answered given)) (typed_of (bytes_come older)).lines

-- the answer to what is asked at a moment, after the answers given and these happenings
abbrev pub answer_after : List Answer → List Happening → ℕ → Answer
answer_after given older moment =
    if is_over given then over
    else unwrap_or (before_lines given (now (asked moment ∷ older)))
    (to_lines (unanswered_lines given older) given (ends_with_input older)
    (now (asked moment ∷ older)))

-- all answers
abbrev pub answers : List Happening → List Answer
answers [] = []
answers (asked moment ∷ older) = answer_after (answers older) older moment ∷ answers older
answers (_ ∷ older) = answers older

-- the answer to what is asked now
abbrev pub answer_to : List Happening → ℕ → Answer
answer_to happenings moment = answer_after (answers happenings) happenings moment

-- ---- texts

-- a byte as it is shown: what is no printable ASCII as `?`
abbrev pub printable : ℕ → ℕ
printable byte = if nat_le 32 byte && nat_le byte 126 then byte else 63

-- what is shown of a refused line: its first 200 bytes
abbrev pub refused_front : List ℕ → List ℕ
refused_front line = map printable (take 200 line)
