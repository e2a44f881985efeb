-- The reply to each event, as a function of the events before it that were not skipped.
use Rattle.std.specs.Prelude.{◌≡◌, ℕ, ◌^◌, ◌%◌, not, List, [], ◌∷◌, length, map, take, nat_lt}
use Rattle.std.specs.Prelude.{nat_le, if◌then◌else◌, is_some, Option, Some, None, Result, Ok, Err}
use Rattle.std.specs.Prelude.{slice_get, slice_range, unwrap_or, find, Bool, false}
use Rattle.std.specs.List.{fold, range_with_len}
use Rattle.std.specs.Option.{option_map_or}
use Rattle.desk_core.specs.Played.{order_at, refusal, tick_answer, tick_at, ticks_since_end}
use Rattle.sacn_source.specs.declared.offered.Offered.{Offered}
use Rattle.sacn_source.specs.declared.offered.Offered.TheVariants.{Sent, Quiet}
use Rattle.sacn_receiver.specs.declared.answer.Taken.{Taken}
use Rattle.sacn_receiver.specs.declared.answer.Ignored.{Ignored}
use Rattle.sacn_receiver.specs.Taking.{answer}
use Rattle.sacn_receiver.specs.Shown.{shown_slots}
use Rattle.console.specs.Streams.{Due, dues_at}
use Rattle.wire_world.specs.declared.happening.Happening.{Happening}
use Rattle.wire_world.specs.declared.happening.Occurrence.{Occurrence}
use Rattle.wire_world.specs.declared.happening.Occurrence.TheVariants.{Order, Tick, Deliver, Stray, Show}
use Rattle.wire_world.specs.declared.reply.Skip.{Skip}
use Rattle.wire_world.specs.declared.reply.Skip.TheVariants.{Backwards, TooLarge, NoConsole}
use Rattle.wire_world.specs.declared.reply.Skip.TheVariants.{NoReceiver, NotSent}
use Rattle.wire_world.specs.declared.reply.Reply.{Reply}
use Rattle.wire_world.specs.declared.reply.Reply.TheVariants as reply
use Rattle.wire_world.specs.World.{World, console_at, universe_at}
use Rattle.wire_world.specs.Happened.{acts, packets_sent, datagram, accepted_by}

-- the moment of the last event; 0 before the first
abbrev pub last_event_moment : List Happening → ℕ
last_event_moment [] = 0
last_event_moment (e ∷ past) = e.moment

-- ---- what is skipped

-- there is no console i, or no receiver r
abbrev pub no_console_at : World → ℕ → Option Skip
no_console_at w i = if not (nat_lt i (length w.consoles)) then Some NoConsole else None

abbrev pub no_receiver_at : World → ℕ → Option Skip
no_receiver_at w r = if not (nat_lt r (length w.receivers)) then Some NoReceiver else None

-- what an event names and is not there, reason by reason: a console, a receiver, a packet
abbrev pub event_lacks : World → List Happening → Occurrence → Skip → Bool
event_lacks w past (Order i command) NoConsole = not (nat_lt i (length w.consoles))
event_lacks w past (Tick i) NoConsole = not (nat_lt i (length w.consoles))
event_lacks w past (Deliver r i universe k) NoConsole = not (nat_lt i (length w.consoles))
event_lacks w past (Deliver r i universe k) NoReceiver = not (nat_lt r (length w.receivers))
event_lacks w past (Deliver r i universe k) NotSent =
    not (nat_lt k (length (packets_sent w i universe past)))
event_lacks w past (Stray r from to) NoReceiver = not (nat_lt r (length w.receivers))
event_lacks w past (Show r) NoReceiver = not (nat_lt r (length w.receivers))
event_lacks w past what _ = false

-- the first of them that applies, in their order
abbrev pub lack_skip : World → List Happening → Occurrence → Option Skip
lack_skip w past what = find (event_lacks w past what) (NoConsole ∷ NoReceiver ∷ NotSent ∷ [])

-- why an event is skipped, reason by reason: its moment comes first, then what it names
abbrev pub skips : World → List Happening → Happening → Skip → Bool
skips w past e Backwards = nat_lt e.moment (last_event_moment past)
skips w past e TooLarge = nat_le (2 ^ 48) e.moment
skips w past e reason = event_lacks w past e.what reason

-- why an event is skipped: the first reason that applies
abbrev pub skip_of : World → List Happening → Happening → Option Skip
skip_of w past e =
    find (skips w past e) (Backwards ∷ TooLarge ∷ NoConsole ∷ NoReceiver ∷ NotSent ∷ [])

-- an event more, unless it is skipped
abbrev pub done_one : World → List Happening → Happening → List Happening
done_one w past e = if is_some (skip_of w past e) then past else e ∷ past

-- of these events, the oldest first, those that were not skipped, the newest first
abbrev pub events_done : World → List Happening → List Happening
events_done w events = fold (done_one w) [] events

-- ---- what is answered

-- what a tick answers for a universe: its packet's number, or Quiet where none was due. No send of
-- a rehearsal fails: loss is a packet that no event delivers
abbrev pub due_answer : Due → ℕ × Offered
due_answer due = (due.universe, option_map_or (λ _. Sent (due.place % 256)) due.packet Quiet)

-- the reply that a receiver's answer is
abbrev pub taken_reply : Result Taken Ignored → Reply
taken_reply (Ok taken) = reply.Taken taken
taken_reply (Err ignored) = reply.Ignored ignored

-- the answer of receiver r to a datagram
abbrev pub datagram_reply : World → ℕ → List Happening → ℕ → List ℕ → Reply
datagram_reply w r past moment bytes =
    taken_reply (answer 4 (universe_at w r) (accepted_by w r past) moment bytes)

-- the reply to an event that is not skipped
abbrev pub event_reply : World → List Happening → ℕ → Occurrence → Reply
event_reply w past moment (Order i command) =
    option_map_or reply.Refused
    (refusal (console_at w i).show (acts w i past) (order_at moment command)) reply.Done
event_reply w past moment (Tick i) =
    option_map_or reply.Refused
    (refusal (console_at w i).show (acts w i past) (tick_at moment))
    (reply.Ticked (tick_answer (ticks_since_end (acts w i past)))
    (map due_answer (dues_at (console_at w i) (acts w i past) moment)))
event_reply w past moment (Deliver r i universe k) =
    datagram_reply w r past moment (unwrap_or (datagram w i universe k past) [])
event_reply w past moment (Stray r from to) =
    datagram_reply w r past moment (slice_range w.strays from to)
event_reply w past moment (Show r) = reply.Shown (shown_slots (accepted_by w r past) moment)

-- the reply to an event after these
abbrev pub reply_to : World → List Happening → Happening → Reply
reply_to w past e =
    option_map_or reply.Skipped (skip_of w past e) (event_reply w past e.moment e.what)

-- the replies to all events, each by the events before it
abbrev pub AreReplies : World → List Happening → List Reply → Type 0
AreReplies w events replies = (length replies ≡ length events)
    × ((j : ℕ) (e : Happening) → slice_get events j ≡ Some e
    → slice_get replies j ≡ Some (reply_to w (events_done w (take j events)) e))

-- the slots of each receiver after these events, at the moment of the last
abbrev pub last_slots : World → List Happening → List (List ℕ)
last_slots w past =
    map (λ r. shown_slots (accepted_by w r past) (last_event_moment past))
    (range_with_len 0 (length w.receivers))
