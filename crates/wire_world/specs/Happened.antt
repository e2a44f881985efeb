-- What events leave: the calls of each console, its packets, and what each receiver has accepted.
-- Lists of events have the newest first, and none that was skipped.
use Rattle.std.specs.Prelude.{ℕ, ◌==◌, List, [], ◌∷◌, if◌then◌else◌, Option, Some, None}
use Rattle.std.specs.Prelude.{slice_get, slice_range}
use Rattle.std.specs.Option.{option_map}
use Rattle.show_core.specs.Tables.{Tables}
use Rattle.desk_core.specs.declared.answer.Refused.{Refused}
use Rattle.desk_core.specs.Played.{Call, order, tick, Act, refusal}
use Rattle.sacn_source.specs.Stream.{Packet, packets}
use Rattle.sacn_receiver.specs.Source.{Entry}
use Rattle.sacn_receiver.specs.Taking.{history_after}
use Rattle.console.specs.Streams.{Production, offers_of, terminations_of}
use Rattle.wire_world.specs.declared.happening.Happening.{Happening}
use Rattle.wire_world.specs.declared.happening.Occurrence.{Occurrence}
use Rattle.wire_world.specs.declared.happening.Occurrence.TheVariants.{Order, Tick, Deliver, Stray}
use Rattle.wire_world.specs.World.{World, console_at, universe_at, plays}
use Rattle.wire_world.specs.Datagrams.{packet_bytes}

-- ---- consoles

-- the call of console i that an event is, where it is one
abbrev pub console_call : ℕ → Occurrence → Option Call
console_call i (Order j command) = if j == i then Some (order command) else None
console_call i (Tick j) = if j == i then Some tick else None
console_call i _ = None

-- a call that is refused changes nothing
abbrev pub unless_refused : Option Refused → Act → List Act → List Act
unless_refused None act history = act ∷ history
unless_refused (Some refused) act history = history

-- a history after a call, where there is one
abbrev pub acts_after_call : Tables → ℕ → Option Call → List Act → List Act
acts_after_call show moment None history = history
acts_after_call show moment (Some call) history =
    let act : Act = record { moment = moment; call = call } in
    unless_refused (refusal show history act) act history

-- the history of console i: its accepted calls
abbrev pub acts : World → ℕ → List Happening → List Act
acts w i [] = []
acts w i (e ∷ past) =
    acts_after_call (console_at w i).show e.moment (console_call i e.what) (acts w i past)

-- the packets of a universe's stream after a history, in order: packet k at place k
abbrev pub stream : Production → ℕ → List Act → List Packet
stream console universe history =
    packets (offers_of console universe history) (terminations_of history)

-- the packets that a console has sent for a universe after a history
abbrev pub packets_of : Production → List Act → ℕ → List Packet
packets_of console history universe =
    if plays console universe then stream console universe history else []

-- the bytes of packet k, where it was sent
abbrev pub bytes_of : Production → List Act → ℕ → ℕ → Option (List ℕ)
bytes_of console history universe k =
    option_map (packet_bytes console.source universe k)
    (slice_get (packets_of console history universe) k)

-- the packets that console i has sent for a universe after these events
abbrev pub packets_sent : World → ℕ → ℕ → List Happening → List Packet
packets_sent w i universe past = packets_of (console_at w i) (acts w i past) universe

-- ---- receivers

-- the datagram of packet k of a universe of console i, where it was sent
abbrev pub datagram : World → ℕ → ℕ → ℕ → List Happening → Option (List ℕ)
datagram w i universe k past = bytes_of (console_at w i) (acts w i past) universe k

-- the datagram that an event hands to receiver r, where it hands it one
abbrev pub datagram_to : World → ℕ → List Happening → Occurrence → Option (List ℕ)
datagram_to w r past (Deliver q i universe k) =
    if q == r then datagram w i universe k past else None
datagram_to w r past (Stray q from to) =
    if q == r then Some (slice_range w.strays from to) else None
datagram_to w r past _ = None

-- what a receiver of a universe, with room for four sources, has accepted after one more datagram
abbrev pub hears : ℕ → ℕ → Option (List ℕ) → List Entry → List Entry
hears universe moment None history = history
hears universe moment (Some bytes) history = history_after 4 universe history moment bytes

-- what receiver r has accepted
abbrev pub accepted_by : World → ℕ → List Happening → List Entry
accepted_by w r [] = []
accepted_by w r (e ∷ past) =
    hears (universe_at w r) e.moment (datagram_to w r past e.what) (accepted_by w r past)
