-- A live night: what is offered, recorded and shown of what happened to its input.
use Rattle.std.specs.Prelude.{◌≡◌, ◌≤◌, ◌+◌, ◌++◌, ℕ, min, true, false, if◌then◌else◌, List, []}
use Rattle.std.specs.Prelude.{◌∷◌}
use Rattle.std.specs.Prelude.{◌⊎◌, length, Result, Ok, Err}
use Rattle.std.specs.Option.{option_map_or}
use Rattle.devices.specs.Send.{Send, failures_of}
use Rattle.show_core.specs.Tables.{Tables}
use Rattle.desk_core.specs.Played.{Act}
use Rattle.console.specs.Streams.{Production}
use Rattle.cmd_faults.specs.declared.fault.RunFault.{RunFault}
use Rattle.cmd_faults.specs.declared.fault.RunFault.TheVariants as run
use Rattle.console.specs.Spelling.{reading_of}
use Rattle.cmd_play.specs.Run.{CarriedLine, IsRunFrom, history_from, history_of, lines_of_run}
use Rattle.cmd_play.specs.Run.{sends_of_run}
use Rattle.live_input.specs.Keys.{has_keys}
use Rattle.live_input.specs.Laws.{lines_text}
use Rattle.live_input.specs.Night.{Answer, Happening, answer_to, answers, asked, is_over}
use Rattle.live_input.specs.Night.{typed_line}
use Rattle.live_input.specs.Night.{help, lines_given, now, over, place, refusal, refused_front}
use Rattle.live_input.specs.Night.{wait}
use Rattle.cmd_live.specs.Booth.{BoothState, Deed, BoothNote, begins, with_fault, keys, kept_at}
use Rattle.cmd_live.specs.Booth.{refused}
use Rattle.cmd_live.specs.Booth.{shown_at}
use Rattle.cmd_live.specs.Shown.{TakesText, help_text, shown_of, shown_place}

-- what a booth did, and what a link was offered
pub record Trace : Type 0 where
  pub booth : BoothState
  pub offered : List Send

abbrev pub trace_of : BoothState → List Send → Trace
trace_of booth offered = record { booth = booth; offered = offered }

-- ---- since a night began; what had happened to its input by then comes first

-- the answers, the newest first
abbrev pub answers_since : List Happening → List Happening → List Answer
answers_since first [] = []
answers_since first (asked moment ∷ older) =
    answer_to (older ++ first) moment ∷ answers_since first older
answers_since first (_ ∷ older) = answers_since first older

-- the history that its console stood for then
abbrev pub history_at : Tables → List Happening → List Act
history_at show first = history_of show (lines_given (answers first))

-- ---- what is shown, told and waited for

-- what is shown at the answers, where these lines were carried out after a history, in their order:
-- of each line what is shown of it after the lines before; of `where` and `help` what they ask for
abbrev pub shown_in : Production → List Act → List Answer → List CarriedLine → List ℕ
shown_in p start [] run = []
shown_in p start (place moment line ∷ older) run = shown_in p start older run
    ++ shown_place p.show (history_from p.show start (lines_of_run run)) moment
shown_in p start (help line ∷ older) run = shown_in p start older run ++ help_text
shown_in p start (refusal why line ∷ older) run = shown_in p start older run
shown_in p start (wait due ∷ older) run = shown_in p start older run
shown_in p start (over ∷ older) run = shown_in p start older run
shown_in p start (answer ∷ older) [] = shown_in p start older []
shown_in p start (answer ∷ older) (newest ∷ run) = shown_in p start older run
    ++ shown_of p (history_from p.show start (lines_of_run run)) (reading_of newest.line)
    newest.offers

-- what is told at an answer: that its line is refused and why, or that keys were left out of it
abbrev pub notes_of : Answer → List BoothNote
notes_of (refusal why line) = refused (refused_front line) why ∷ []
notes_of answer = if option_map_or has_keys (typed_line answer) false then keys ∷ [] else []

abbrev pub told_in : List Answer → List BoothNote
told_in [] = []
told_in (answer ∷ older) = notes_of answer ++ told_in older

-- until when it is waited for what is typed: where nothing is due
abbrev pub waits_of : Answer → List ℕ
waits_of (wait due) = due ∷ []
waits_of _ = []

abbrev pub waited_in : List Answer → List ℕ
waited_in [] = []
waited_in (answer ∷ older) = waits_of answer ++ waited_in older

-- ---- in which order

-- each of these lines was recorded when the link had been offered what is due at the lines before
-- it, and nothing more; and whatever was shown, was shown when it had been offered all that is due
-- at the lines so far
abbrev pub InOrder : List Send → List CarriedLine → List Deed → Type 0
InOrder first run (shown_at offered ∷ older) =
    (offered ≡ first ++ sends_of_run run) × InOrder first run older
InOrder first (newest ∷ run) (kept_at offered ∷ older) =
    (offered ≡ first ++ sends_of_run run) × InOrder first run older
InOrder first [] [] = Unit {0}
InOrder first _ _ = ⊥

-- ---- nights

-- the lines that a live input gives under these happenings were carried out, after what had
-- happened first: at each the link was offered what is due at it after the lines before, whatever
-- sends failed; the lines were recorded, and answers, moves and what was asked for shown, as far as
-- no call of the booth failed; each line was recorded before anything of it was offered, and shown
-- was what is behind that; what is to be told was told, and it was waited wherever nothing was
-- due; the clock was not set again, and neither the clock nor a wait failed; and so many packets
-- were lost, or more than can be counted
pub record Lives (p : Production) (first happened : List Happening) (before after : Trace)
    (lost : ℕ) : Type 0 where
  pub run : List CarriedLine
  pub lines_are : lines_of_run run ≡ lines_given (answers_since first happened)
  pub is_run : IsRunFrom p (history_at p.show first) run
  pub begun_is : after.booth.begun ≡ before.booth.begun
  pub happened_is : after.booth.happened ≡ happened ++ before.booth.happened
  pub offered_is : after.offered ≡ before.offered ++ sends_of_run run
  pub kept : TakesText before.booth.kept after.booth.kept (lines_text (lines_of_run run))
  pub shown : TakesText before.booth.shown after.booth.shown
      (shown_in p (history_at p.show first) (answers_since first happened) run)
  pub deeds : List Deed
  pub deeds_are : after.booth.deeds ≡ deeds ++ before.booth.deeds
  pub in_order : InOrder before.offered run deeds
  pub told_is : after.booth.told ≡ told_in (answers_since first happened) ++ before.booth.told
  pub waited_is : after.booth.waited
      ≡ waited_in (answers_since first happened) ++ before.booth.waited
  pub faults_are : after.booth.faults ≡ before.booth.faults
  pub lost_is : lost ≡ min (failures_of (sends_of_run run)) 18446744073709551615

-- a night that is over: three ticks after `end`
pub record IsLived (p : Production) (first : List Happening) (before after : Trace) (lost : ℕ)
    : Type 0 where
  pub happened : List Happening
  pub lives : Lives p first happened before after lost
  pub over : is_over (answers (happened ++ first)) ≡ true

-- what ended a night that was lived so far: the clock or a wait failed; or it was asked what is
-- next for 2^64 - 1 times, which at one a nanosecond are 584 years
abbrev pub Breaks : List Happening → BoothState → BoothState → Type 0
Breaks happened middle after =
    (after ≡ with_fault middle) ⊎ ((after ≡ middle) × (18446744073709551615 ≤ length happened))

-- a night from where its clock was set, by its answer: it is over, and no packet was lost, or so
-- many were; or it broke off, and what was given before was carried out
abbrev pub LivedOn : {X : Type 0} → Production → List Happening → Result X RunFault → Trace → Trace
    → Type 0
LivedOn p first (Ok x) before after = IsLived p first before after 0
LivedOn p first (Err (run.Lost n)) before after = (1 ≤ n) × IsLived p first before after n
LivedOn p first (Err run.Device) before after =
    (happened : List Happening) × (lost : ℕ) × (middle : BoothState)
    × Lives p first happened before (trace_of middle after.offered) lost
    × Breaks happened middle after.booth
LivedOn p first (Err _) before after = ⊥

-- the moment at which the clock of a night goes on: that of the last look at it, and what has
-- passed since, at most ten seconds
abbrev pub begins_at : List Happening → ℕ → ℕ
begins_at first passed = now first + min passed 10000

-- a night that begins when so much has passed
abbrev pub HasLived : {X : Type 0} → Production → List Happening → ℕ → Result X RunFault
    → Trace → Trace
    → Type 0
HasLived p first passed result before after =
    LivedOn p first result
    (trace_of (begins (begins_at first passed) before.booth) before.offered) after

-- how a night ends
abbrev pub IsEnd : {X : Type 0} → Result X RunFault → Type 0
IsEnd (Ok x) = Unit {0}
IsEnd (Err (run.Lost n)) = 1 ≤ n
IsEnd (Err run.Device) = Unit {0}
IsEnd (Err _) = ⊥
