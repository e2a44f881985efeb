-- Nights that are killed and taken up, and consoles that take over. Lists of lines have the newest
-- first.
use Rattle.std.specs.Prelude.{◌≡◌, ◌≤◌, ◌<◌, ◌-◌, ◌++◌, ℕ, IsTrue, List, [], ◌∷◌, Result, length}
use Rattle.std.specs.Prelude.{slice_index, take}
use Rattle.devices.specs.Send.{Send}
use Rattle.desk_core.specs.Meaning.{latest_frame}
use Rattle.sacn_source.specs.declared.offered.Offered.{Offered}
use Rattle.console.specs.Offering.{AreOffered}
use Rattle.console.specs.Streams.{Production}
use Rattle.console.specs.Spelling.{reading_of}
use Rattle.cmd_faults.specs.declared.fault.RunFault.{RunFault}
use Rattle.cmd_live.specs.Beginning.{IsFirstOther}
use Rattle.cmd_live.specs.Night.{HasLived, Trace, answers_since}
use Rattle.ascii_text.specs.Lines.{cut_of}
use Rattle.cmd_play.specs.Run.{CarriedLine, IsRunFrom, dues_after, history_from, history_of}
use Rattle.cmd_play.specs.Run.{lines_of_run, sends_of_run}
use Rattle.live_input.specs.Night.{Happening, answers, lines_given}
use Rattle.live_input.specs.Recall.{AreRecalled, recall_of}
use Rattle.wire_world.specs.Sends.{sent_to}
use Rattle.wire_world.specs.World.{IsConsole}
use Rattle.cueplayer.specs.Laws.{AreSettled, HearsAll, HearsOne, is_lit}
use Rattle.cueplayer.specs.Plays.{ArePlays, IsPlay, Play, frame_for, play_history, play_at}
use Rattle.cueplayer.specs.Plays.{sends_for}
use Rattle.cueplayer.specs.Traffic.{IsFresh, Traffic, receipts, slots_at}

-- ---- one play of several processes

-- a play, then these lines behind its own, and what was offered at them
abbrev pub play_on : Play → List (List ℕ) → List Send → Play
play_on play lines offered = record {
  production = play.production;
  lines = lines ++ play.lines;
  offered = play.offered ++ offered;
}

-- nothing was carried out yet
abbrev pub new_play : Production → Play
new_play p = record { production = p; lines = []; offered = [] }

-- THE RESTART TAKES UP THE HISTORY. What is carried out behind the lines of a play is one play with
-- it
abbrev pub PlaysGoOn : Type 0
PlaysGoOn =
    (play : Play) (run : List CarriedLine) → IsPlay play
    → IsRunFrom play.production (play_history play) run
    → IsPlay (play_on play (lines_of_run run) (sends_of_run run))

-- a process broke off behind a play: of the lines that it recorded all but the newest were carried
-- out, and of what was due at the newest the first packets were offered: none, some, or all
pub record BrokeOff (play : Play) (newest : List ℕ) (older : List (List ℕ)) (offered : List Send)
    : Type 0 where
  pub run : List CarriedLine
  pub lines_are : lines_of_run run ≡ older
  pub is_run : IsRunFrom play.production (play_history play) run
  pub count : ℕ
  pub part : List Send
  pub offers : List (ℕ × Offered)
  pub are_offered : AreOffered play.production.source
      (take count (dues_after play.production
      (history_from play.production.show (play_history play) older) (reading_of newest)))
      part offers
  pub offered_are : offered ≡ sends_of_run run ++ part

-- at most one send for each universe
abbrev pub AreFew : List Send → Type 0
AreFew sends = (universe : ℕ) → length (sent_to universe sends) ≤ 1

-- ONE STREAM. Where a process broke off behind a play, what it was offered, and the sends that it
-- did not come to, at most one for each universe, make a play of all lines that it recorded. So a
-- process that goes on behind them sends what comes next in the stream of each universe
abbrev pub BreaksArePlays : Type 0
BreaksArePlays =
    (play : Play) (newest : List ℕ) (older : List (List ℕ)) (offered : List Send)
    → IsConsole play.production → IsPlay play → BrokeOff play newest older offered
    → (missing : List Send) × AreFew missing
    × IsPlay (play_on play (newest ∷ older) (offered ++ missing))

-- THE HEADLINE ACROSS A RESTART. A process broke off in the newest line of its record; a night took
-- that record up, and this has happened to its input since, and these sends were offered. Then
-- there are sends that neither came to, at most one for each universe, so that both processes are
-- one play of all lines: a receiver that hears it alone, and to which it is fresh, shows what the
-- show means at the latest tick of them
abbrev pub RestartHeadline : Type 0
RestartHeadline =
    (p : Production) (newest : List ℕ) (older : List (List ℕ)) (offered later : List Send)
    (passed : ℕ) (result : Result (Unit {0}) RunFault) (before after : Trace)
    (happened : List Happening) → IsConsole p → BrokeOff (new_play p) newest older offered
    → AreRecalled (newest ∷ older)
    → HasLived p (recall_of (newest ∷ older)) passed result before after
    → after.booth.happened ≡ happened ++ before.booth.happened
    → after.offered ≡ before.offered ++ later
    → (missing : List Send) × AreFew missing
    × (let since = lines_given (answers_since (recall_of (newest ∷ older)) happened) in
    let broken = play_on (new_play p) (newest ∷ older) (offered ++ missing) in
    let play = play_on broken since later in
    (universe t : ℕ) (traffic : Traffic ℕ) → HearsOne play universe t traffic
    → IsFresh t (sends_for play universe) (receipts traffic)
    → slots_at universe traffic t
    ≡ latest_frame p.show (history_of p.show (since ++ newest ∷ older)) (universe - p.base))

-- NO RECORD OF A NIGHT IS REFUSED. Where the whole lines of a text, behind older ones, are the
-- first that a live night gave, whatever happened to it: `take_up` finds none among them that no
-- live night gives behind those before it, wherever the text ends
abbrev pub RecordsAreTakenUp : Type 0
RecordsAreTakenUp =
    (h : List Happening) (text : List ℕ) (later older : List (List ℕ)) (number : ℕ)
    → lines_given (answers h) ≡ later ++ (cut_of text).lines ++ older
    → IsFirstOther older text number → ⊥

-- ---- several consoles

-- a play lights the receiver, and each that does means these slots
pub record AllMean (plays : List Play) (universe t : ℕ) (traffic : Traffic (ℕ × ℕ))
    (slots : List ℕ) : Type 0 where
  pub one : ℕ
  pub is_one : one < length plays
  pub lights : IsTrue (is_lit plays traffic t one)
  pub mean : (i : ℕ) → i < length plays → IsTrue (is_lit plays traffic t i)
      → frame_for (play_at plays i) universe ≡ slots

-- ALL MEAN ONE THING. Where all plays that light a receiver mean the same, whatever their
-- priorities, it shows that
abbrev pub MeansOne : Type 0
MeansOne =
    (plays : List Play) (universe t : ℕ) (traffic : Traffic (ℕ × ℕ)) (slots : List ℕ)
    → ArePlays plays → HearsAll plays universe t traffic → AreSettled plays universe traffic t
    → AllMean plays universe t traffic slots → (slot : ℕ) → slot < 512
    → slice_index (slots_at universe traffic t) slot ≡ slice_index slots slot

-- a play of the same show, with the same numbers of universes, that has carried out the same
pub record IsTwin (main twin : Play) : Type 0 where
  pub show_is : twin.production.show ≡ main.production.show
  pub base_is : twin.production.base ≡ main.production.base
  pub history_is : play_history twin ≡ play_history main

-- a play lights the receiver, and each that does is a twin of the main
pub record TwinsLight (main : Play) (plays : List Play) (t : ℕ) (traffic : Traffic (ℕ × ℕ))
    : Type 0 where
  pub one : ℕ
  pub is_one : one < length plays
  pub lights : IsTrue (is_lit plays traffic t one)
  pub twins : (i : ℕ) → i < length plays → IsTrue (is_lit plays traffic t i)
      → IsTwin main (play_at plays i)

-- what a receiver hears at a moment: these plays alone, each of them fresh or silent
pub record Hears (plays : List Play) (universe t : ℕ) (traffic : Traffic (ℕ × ℕ)) : Type 0 where
  pub are_plays : ArePlays plays
  pub all : HearsAll plays universe t traffic
  pub settled : AreSettled plays universe traffic t

-- TAKING OVER WITHOUT A JUMP. Of two moments, before and after a main fell silent: where at both
-- each play that lights the receiver has the show and the history that the main had at the first,
-- the receiver's slots are equal
abbrev pub TakesOver : Type 0
TakesOver =
    (main : Play) (plays later : List Play) (universe t u : ℕ) (traffic others : Traffic (ℕ × ℕ))
    → Hears plays universe t traffic → Hears later universe u others
    → TwinsLight main plays t traffic → TwinsLight main later u others
    → (slot : ℕ) → slot < 512
    → slice_index (slots_at universe traffic t) slot ≡ slice_index (slots_at universe others u) slot
