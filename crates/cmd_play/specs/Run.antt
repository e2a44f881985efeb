-- The run of the lines of an input. Histories and lists of lines have the newest entry first.
use Rattle.std.specs.Prelude.{◌≡◌, ℕ, List, [], ◌∷◌, ◌++◌, map, Option, Some, None}
use Rattle.devices.specs.Send.{Send, failures_of}
use Rattle.devices.specs.Tape.{Tape, with_failure, with_more}
use Rattle.show_core.specs.Tables.{Tables}
use Rattle.desk_core.specs.declared.answer.Refused.{Refused}
use Rattle.desk_core.specs.Played.{Act, ticks_since_end, refusal, tick_answer}
use Rattle.sacn_source.specs.declared.offered.Offered.{Offered}
use Rattle.console.specs.Offering.{AreOffered}
use Rattle.console.specs.Streams.{Due, Production, dues_at}
use Rattle.console.specs.declared.call.Call.{Call}
use Rattle.console.specs.declared.call.Call.TheVariants.{Order, Tick}
use Rattle.console.specs.declared.reading.Reading.{Reading}
use Rattle.console.specs.declared.reading.Reading.TheVariants.{At}
use Rattle.console.specs.Spelling.{act_of, reading_of}
use Rattle.console.specs.Texts.{done_text, moment_line, refused_text, ticked_text}

-- ---- the history of the calls that lines spell

-- a call that is not refused is one more
abbrev pub acts_by : Option Refused → Act → List Act → List Act
acts_by None act history = act ∷ history
acts_by (Some refused) act history = history

abbrev pub acts_after : Tables → Reading → List Act → List Act
acts_after show (At moment call) history =
    acts_by (refusal show history (act_of moment call)) (act_of moment call) history
acts_after show _ history = history

-- the history after these lines, of a console that stood for this one before them
abbrev pub history_from : Tables → List Act → List (List ℕ) → List Act
history_from show start [] = start
history_from show start (line ∷ older) =
    acts_after show (reading_of line) (history_from show start older)

-- and of a console that had done nothing yet
abbrev pub history_of : Tables → List (List ℕ) → List Act
history_of show lines = history_from show [] lines

-- ---- what a line does after a history

-- an accepted tick has packets due, and no other call has
abbrev pub dues_by : Option Refused → Call → List Due → List Due
dues_by None Tick dues = dues
dues_by _ _ dues = []

abbrev pub dues_after : Production → List Act → Reading → List Due
dues_after p history (At moment call) =
    dues_by (refusal p.show history (act_of moment call)) call (dues_at p history moment)
dues_after p history _ = []

-- the answer to a call, by its refusal, the ticks since End, and what became of its offers
abbrev pub answer_text : Option Refused → Call → Option ℕ → List (ℕ × Offered) → List ℕ
answer_text (Some refused) call ticks offers = refused_text refused
answer_text None (Order instruction) ticks offers = done_text
answer_text None Tick ticks offers = ticked_text (tick_answer ticks) offers

-- what is printed of a line: its moment and the answer to its call, or nothing where it has no
-- words
abbrev pub line_text : Production → List Act → Reading → List (ℕ × Offered) → List ℕ
line_text p history (At moment call) offers =
    moment_line moment (answer_text (refusal p.show history (act_of moment call)) call
    (ticks_since_end history) offers)
line_text p history _ offers = []

-- the link is offered what is due, so many of the sends fail, and this is the text
pub record IsAnswered (p : Production) (history : List Act) (reading : Reading)
    (before after : List Send)
    (text : List ℕ) (lost : ℕ) : Type 0 where
  pub sends : List Send
  pub offers : List (ℕ × Offered)
  pub are_offered : AreOffered p.source (dues_after p history reading) sends offers
  pub after_is : after ≡ before ++ sends
  pub text_is : text ≡ line_text p history reading offers
  pub lost_is : lost ≡ failures_of sends

-- what a link was offered, and what an output did
pub record Emission : Type 0 where
  pub offered : List Send
  pub printed : Tape ℕ

abbrev pub emission : List Send → Tape ℕ → Emission
emission offered printed = record { offered = offered; printed = printed }

-- a line is carried out: it is answered, and the output takes its text
pub record CarriesOut (p : Production) (history : List Act) (reading : Reading)
    (before after : Emission)
    (lost : ℕ) : Type 0 where
  pub text : List ℕ
  pub answered : IsAnswered p history reading before.offered after.offered text lost
  pub printed_is : after.printed ≡ with_more before.printed text

-- a line is answered, and the output fails
pub record FailsToPrint (p : Production) (history : List Act) (reading : Reading)
    (before after : Emission)
    : Type 0 where
  pub text : List ℕ
  pub lost : ℕ
  pub answered : IsAnswered p history reading before.offered after.offered text lost
  pub printed_is : after.printed ≡ with_failure before.printed

-- ---- the run

-- a line that was carried out: the sends that the link was offered at it, and what became of the
-- offers
pub record CarriedLine : Type 0 where
  pub line : List ℕ
  pub sends : List Send
  pub offers : List (ℕ × Offered)

abbrev pub lines_of_run : List CarriedLine → List (List ℕ)
lines_of_run run = map (λ carried. carried.line) run

-- each line offers what is due at it after this history and the lines before it
abbrev pub IsRunFrom : Production → List Act → List CarriedLine → Type 0
IsRunFrom p start [] = Unit {0}
IsRunFrom p start (newest ∷ older) =
    AreOffered p.source
    (dues_after p (history_from p.show start (lines_of_run older)) (reading_of newest.line))
    newest.sends newest.offers
    × IsRunFrom p start older

-- and of a console that had done nothing yet
abbrev pub IsRun : Production → List CarriedLine → Type 0
IsRun p run = IsRunFrom p [] run

-- the sends of a run, and its text, in their order
abbrev pub sends_of_run : List CarriedLine → List Send
sends_of_run [] = []
sends_of_run (newest ∷ older) = sends_of_run older ++ newest.sends

abbrev pub text_of_run : Production → List CarriedLine → List ℕ
text_of_run p [] = []
text_of_run p (newest ∷ older) = text_of_run p older
    ++ line_text p (history_of p.show (lines_of_run older)) (reading_of newest.line) newest.offers

-- the run of these lines: the link was offered its sends, the output took its text, and so many
-- sends failed
pub record Ran (p : Production) (lines : List (List ℕ)) (before after : Emission) (lost : ℕ)
    : Type 0 where
  pub run : List CarriedLine
  pub lines_are : lines_of_run run ≡ lines
  pub is_run : IsRun p run
  pub offered_is : after.offered ≡ before.offered ++ sends_of_run run
  pub printed_is : after.printed ≡ with_more before.printed (text_of_run p run)
  pub lost_is : lost ≡ failures_of (sends_of_run run)
