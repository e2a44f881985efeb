-- What the programs promise, joined: what `play` and `live` did is a play; and from a play to what
-- `listen` prints.
use Rattle.std.specs.Prelude.{◌≡◌, ℕ, ◌-◌, ◌++◌, List, ◌∷◌, reverse, Result}
use Rattle.devices.specs.Send.{Send}
use Rattle.devices.specs.Tape.{Tape, with_more}
use Rattle.desk_core.specs.Meaning.{latest_frame}
use Rattle.sacn_receiver.specs.Replies.{slots_line}
use Rattle.show_core.specs.Tables.{Tables}
use Rattle.console.specs.Streams.{Production}
use Rattle.cmd_faults.specs.declared.fault.RunFault.{RunFault}
use Rattle.ascii_text.specs.Lines.{Cut}
use Rattle.cmd_play.specs.Play.{Plays}
use Rattle.cmd_play.specs.Run.{Emission, Ran, history_of}
use Rattle.cmd_play.specs.Stage.{RunsDry}
use Rattle.cmd_listen.specs.Listening.{listen_text, replies, HasListened}
use Rattle.cmd_live.specs.Night.{HasLived, Trace, answers_since}
use Rattle.live_input.specs.Laws.{accepted_acts}
use Rattle.live_input.specs.Night.{Happening, answers, lines_given}
use Rattle.cueplayer.specs.Plays.{Play, IsPlay, sends_for, frame_for}
use Rattle.cueplayer.specs.Traffic.{Traffic, datagrams_in, receipts, slots_at, IsFresh}
use Rattle.cueplayer.specs.Laws.{HearsOne}
use Rattle.cueplayer.specs.Restarts.{play_on}

-- ---- what `play` did is a play

-- these lines, and what the link was offered from before to after, are a play
pub record HasPlayed (p : Production) (lines : List (List ℕ)) (before after : List Send)
    : Type 0 where
  pub offered : List Send
  pub after_is : after ≡ before ++ offered
  pub is_play : IsPlay (record { production = p; lines = lines; offered = offered })

-- where all lines were carried out
abbrev pub RunsArePlays : Type 0
RunsArePlays =
    (p : Production) (lines : List (List ℕ)) (before after : Emission) (lost : ℕ)
    → Ran p lines before after lost → HasPlayed p lines before.offered after.offered

-- and where the output failed at the last of them: what the link was offered at it counts too
abbrev pub DryRunsArePlays : Type 0
DryRunsArePlays =
    (p : Production) (cut : Cut) (before after : Emission) → RunsDry p cut before after
    → HasPlayed p (cut.rest ∷ cut.lines) before.offered after.offered

-- whatever a `play` that took its input answers, where its devices tell
abbrev pub PlaysArePlays : Type 0 → Type 0
PlaysArePlays ended =
    (p : Production) (result : Result (Unit {0}) RunFault) (fed feeds : Tape ℕ)
    (before after : Emission) → Plays p result ended fed feeds before after
    → (lines : List (List ℕ)) × HasPlayed p lines before.offered after.offered

-- ---- a live night is a play

-- what happened to its input since, and that the lines which were given under it are one play with
-- those before
pub record IsNight (play : Play) (first : List Happening) (before after : Trace) : Type 0 where
  pub happened : List Happening
  pub happened_is : after.booth.happened ≡ happened ++ before.booth.happened
  pub offered : List Send
  pub after_is : after.offered ≡ before.offered ++ offered
  pub is_play : IsPlay (play_on play (lines_given (answers_since first happened)) offered)

-- A LIVE NIGHT IS A PLAY. Whatever bytes came, whatever the clock said and however it ended: the
-- link was offered what is due at the lines that the live input gave, behind those of a play where
-- it took up its record. So the laws of plays hold of each live night
abbrev pub NightsArePlays : Type 0
NightsArePlays =
    (play : Play) (first : List Happening) (passed : ℕ) (result : Result (Unit {0}) RunFault)
    (before after : Trace) → IsPlay play → play.lines ≡ lines_given (answers first)
    → HasLived play.production first passed result before after → IsNight play first before after

-- A NIGHT IS WHAT WAS TYPED. The history under which a show is meant then is what a desk accepts
-- of the answers: the commands that were typed, the ticks, and the end of the night, each at its
-- moment
abbrev pub NightsAreTyped : Type 0
NightsAreTyped =
    (show : Tables) (happenings : List Happening)
    → history_of show (lines_given (answers happenings)) ≡ accepted_acts show (answers happenings)

-- FROM WHAT WAS TYPED TO THE LIGHT. So the headline of a live night, however it ended, and whether
-- it began anew or behind the lines of a play: where this happened to its input, and these sends
-- were offered, a receiver that hears it all alone, and to which it is fresh, shows what the show
-- means at the latest tick, under the commands that were typed before that tick
abbrev pub NightHeadline : Type 0
NightHeadline =
    (play : Play) (first : List Happening) (passed : ℕ) (result : Result (Unit {0}) RunFault)
    (before after : Trace) → IsPlay play → play.lines ≡ lines_given (answers first)
    → HasLived play.production first passed result before after
    → (happened : List Happening) (offered : List Send)
    → after.booth.happened ≡ happened ++ before.booth.happened
    → after.offered ≡ before.offered ++ offered
    → (let show = play.production.show in
    let all = play_on play (lines_given (answers_since first happened)) offered in
    (universe t : ℕ) (traffic : Traffic ℕ) → HearsOne all universe t traffic
    → IsFresh t (sends_for all universe) (receipts traffic)
    → slots_at universe traffic t
    ≡ latest_frame show (accepted_acts show (answers (happened ++ first)))
    (universe - play.production.base))

-- ---- from `play` to `listen`

-- FROM PLAY TO LISTEN. Whatever lines a play has carried out, and whatever a `listen` of a universe
-- received, all at moment 0 as it takes it: where it hears the play alone, and the newest that was
-- sent is among it, its text ends with the slots that the show means at the latest tick
abbrev pub ListenLaw : Type 0
ListenLaw =
    (play : Play) (universe : ℕ) (traffic : Traffic ℕ) → IsPlay play
    → HearsOne play universe 0 traffic → IsFresh 0 (sends_for play universe) (receipts traffic)
    → (let datagrams = datagrams_in traffic in
    listen_text universe datagrams
    ≡ replies universe datagrams ++ slots_line (frame_for play universe))

-- THE TWO PROGRAMS. The same of what the contracts of `play` and `listen` say. After a run of these
-- lines a link was offered these sends more; a `listen` printed what it received. Where that is
-- traffic in which it hears the run alone, and the newest send is among it, what it printed ends
-- with the slots that the show means at the latest tick of the lines
abbrev pub PlayToListen : Type 0
PlayToListen =
    (p : Production) (lines : List (List ℕ)) (before after : Emission) (lost : ℕ)
    (offered : List Send) → Ran p lines before after lost
    → after.offered ≡ before.offered ++ offered
    → (universe count : ℕ) (given gives : Tape (List ℕ)) (printed prints : Tape ℕ)
    (traffic : Traffic ℕ) → HasListened universe count given gives printed prints
    → gives.items ≡ given.items ++ reverse (datagrams_in traffic)
    → (let play : Play = record { production = p; lines = lines; offered = offered } in
    HearsOne play universe 0 traffic → IsFresh 0 (sends_for play universe) (receipts traffic)
    → prints ≡ with_more printed (replies universe (datagrams_in traffic)
    ++ slots_line (latest_frame p.show (history_of p.show lines) (universe - p.base))))
