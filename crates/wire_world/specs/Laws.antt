-- What holds of every rehearsal: laws over the definitions alone. Each speaks of any list of
-- events and of those of them that were not skipped, `done w events`.
use Rattle.std.specs.Prelude.{◌≡◌, ℕ, suc, ◌+◌, ◌-◌, ◌*◌, ◌<◌, ◌≤◌, ◌==◌, ◌⊎◌, Bool, not, ◌&&◌}
use Rattle.std.specs.Prelude.{IsTrue, IsFalse, List, [], ◌∷◌, length, map, filter, is_some, nat_le}
use Rattle.std.specs.Prelude.{slice_index, slice_get, slice_range, Contains, if◌then◌else◌}
use Rattle.std.specs.Prelude.{Option, Some, None}
use Rattle.std.specs.List.{list_all, range_with_len}
use Rattle.std.specs.Str.{bytes_eq}
use Rattle.std.specs.FinMap as maps
use Rattle.desk_core.specs.Played.{Act}
use Rattle.desk_core.specs.Meaning.{dark, latest_frame}
use Rattle.sacn_source.specs.Identify.{IsStreamPacket}
use Rattle.sacn_source.specs.Stream.{Packet}
use Rattle.sacn_receiver.specs.Arrivals.{not_heard}
use Rattle.sacn_receiver.specs.Source.{Entry}
use Rattle.sacn_receiver.specs.Taking.{answer}
use Rattle.sacn_receiver.specs.Shown.{Light, merged_slot, shown_slots}
use Rattle.console.specs.Streams.{terminations_of}
use Rattle.wire_world.specs.declared.happening.Happening.{Happening}
use Rattle.wire_world.specs.declared.happening.Occurrence.{Occurrence}
use Rattle.wire_world.specs.declared.happening.Occurrence.TheVariants.{Deliver, Stray}
use Rattle.wire_world.specs.World.{World, console_at, universe_at, IsWorld}
use Rattle.wire_world.specs.Happened.{acts, packets_sent, datagram, hears, accepted_by}
use Rattle.wire_world.specs.Replies.{last_event_moment, events_done}
use Rattle.wire_world.specs.Delivery.{Delivery, deliveries, newest_of, arrival, IsInWindow}

-- ---- what the laws ask of the events

-- an event is no stray to receiver r that is heard on its universe
abbrev pub IsUnheard : World → ℕ → Occurrence → Type 0
IsUnheard w r (Stray q from to) =
    q ≡ r → IsTrue (is_some (not_heard (universe_at w r) (slice_range w.strays from to)))
IsUnheard w r _ = Unit {0}

-- no stray to receiver r was heard on its universe. Other strays may come anywhere
abbrev pub NoStray : World → ℕ → List Happening → Type 0
NoStray w r [] = Unit {0}
NoStray w r (e ∷ past) = IsUnheard w r e.what × NoStray w r past

-- no console but i has sent for the universe of receiver r
abbrev pub IsAlone : World → ℕ → ℕ → List Happening → Type 0
IsAlone w r i past =
    (j : ℕ) → j < length w.consoles → IsFalse (j == i)
    → packets_sent w j (universe_at w r) past ≡ []

-- receiver r hears console i alone: no other console has sent for its universe, no stray was heard
-- on it, and the packets that came to it from console i stayed in the window
pub record HearsOne (w : World) (r i : ℕ) (past : List Happening) : Type 0 where
  pub alone : IsAlone w r i past
  pub no_stray : NoStray w r past
  pub window : IsInWindow (deliveries w r i past)

-- the newest packet sent has come, and it first came less than 2,500 ms before moment t
abbrev pub IsFreshIn : ℕ → List Packet → List Delivery → Type 0
IsFreshIn t packets [] = ⊥
IsFreshIn t packets (d ∷ older) =
    (suc (newest_of (d ∷ older)) ≡ length packets) × (t < arrival (d ∷ older) + 2500)

-- so for the packets of console i on the universe of receiver r
abbrev pub IsFresh : World → ℕ → ℕ → List Happening → ℕ → Type 0
IsFresh w r i past t = IsFreshIn t (packets_sent w i (universe_at w r) past) (deliveries w r i past)

-- no packet of console i came to receiver r less than 2,500 ms before moment t
abbrev pub is_silent : World → ℕ → ℕ → List Happening → ℕ → Bool
is_silent w r i past t = list_all (λ d. nat_le (d.moment + 2500) t) (deliveries w r i past)

-- the CIDs of the consoles differ
abbrev pub CidsDiffer : World → Type 0
CidsDiffer w =
    (i j : ℕ) → i < length w.consoles → j < length w.consoles → IsFalse (j == i)
    → IsFalse (bytes_eq (console_at w i).source.cid (console_at w j).source.cid)

-- receiver r hears the consoles, at most four of them with CIDs of their own: no stray was heard
-- on its universe, and the packets that came to it from each console stayed in the window
pub record HearsAll (w : World) (r : ℕ) (past : List Happening) : Type 0 where
  pub apart : CidsDiffer w
  pub few : length w.consoles ≤ 4
  pub no_stray : NoStray w r past
  pub window : (i : ℕ) → i < length w.consoles → IsInWindow (deliveries w r i past)

-- each console that has sent for the universe of receiver r is fresh or silent
abbrev pub AreSettled : World → ℕ → List Happening → ℕ → Type 0
AreSettled w r past t =
    (i : ℕ) → i < length w.consoles → (packets_sent w i (universe_at w r) past ≡ [] → ⊥)
    → IsFresh w r i past t ⊎ IsTrue (is_silent w r i past t)

-- ---- what receivers show

-- what console i's show means for the universe of receiver r at the latest tick, under the
-- commands before that tick
abbrev pub meant_slots : World → ℕ → ℕ → List Happening → List ℕ
meant_slots w r i past =
    latest_frame (console_at w i).show (acts w i past) (universe_at w r - (console_at w i).base)

-- the slots of receiver r at moment t after these events
abbrev pub slots_at : World → ℕ → List Happening → ℕ → List ℕ
slots_at w r past t = shown_slots (accepted_by w r past) t

-- THE HEADLINE. Whatever the events: where receiver r hears console i alone, then whenever the
-- newest packet that the console has sent for its universe first arrived less than 2,500 ms ago,
-- its slots are what the show means at the latest tick, under the commands before that tick
abbrev pub Headline : Type 0
Headline =
    (w : World) (events : List Happening) (r i t : ℕ) → IsWorld w
    → (let past = events_done w events in
    last_event_moment past ≤ t → HearsOne w r i past → IsFresh w r i past t
    → slots_at w r past t ≡ meant_slots w r i past)

-- the dimmer of a slot, counted from 0, in the universe of receiver r, is not patched by console i
abbrev pub IsUnpatched : World → ℕ → ℕ → ℕ → Type 0
IsUnpatched w r i slot =
    let console = console_at w i in
    maps.get console.show.patch (512 * (universe_at w r - console.base) + 1 + slot) ≡ None

-- and a slot without a patched channel is 0
abbrev pub UnpatchedSlotsAreZero : Type 0
UnpatchedSlotsAreZero =
    (w : World) (events : List Happening) (r i t slot : ℕ) → IsWorld w
    → (let past = events_done w events in
    last_event_moment past ≤ t → HearsOne w r i past → IsFresh w r i past t
    → slot < 512 → IsUnpatched w r i slot → slice_index (slots_at w r past t) slot ≡ 0)

-- these slots are those of one packet that was sent and came less than 2,500 ms before moment t,
-- at most 19 behind the newest that came
pub record IsOneOf (t : ℕ) (slots : List ℕ) (packets : List Packet) (ds : List Delivery)
    : Type 0 where
  pub one : Delivery
  pub came : Contains ds one
  pub is_sent : slice_get packets one.k ≡ Some one.packet
  pub not_far_behind : newest_of ds ≤ one.k + 19
  pub not_ahead : one.k ≤ newest_of ds
  pub recent : t < one.moment + 2500
  pub are : slots ≡ one.packet.slots

-- THE WINDOW LAW. Whether the newest packet came or not: where receiver r hears console i alone,
-- its slots are those of one delivered packet, the newest or up to 19 behind it, or all 0
abbrev pub WindowLaw : Type 0
WindowLaw =
    (w : World) (events : List Happening) (r i t : ℕ) → IsWorld w
    → (let past = events_done w events in
    last_event_moment past ≤ t → HearsOne w r i past
    → IsOneOf t (slots_at w r past t) (packets_sent w i (universe_at w r) past)
    (deliveries w r i past)
    ⊎ (slots_at w r past t ≡ dark))

-- and they are all 0 where none arrived less than 2,500 ms ago
abbrev pub SilenceIsDark : Type 0
SilenceIsDark =
    (w : World) (events : List Happening) (r i t : ℕ) → IsWorld w
    → (let past = events_done w events in
    last_event_moment past ≤ t → HearsOne w r i past → IsTrue (is_silent w r i past t)
    → slots_at w r past t ≡ dark)

-- ---- several consoles

-- no tick of a history came after End
abbrev pub is_live : List Act → Bool
is_live history = terminations_of history == 0

-- console i lights receiver r: it is not silent, and its latest tick was before End
abbrev pub is_lit : World → ℕ → List Happening → ℕ → ℕ → Bool
is_lit w r past t i = not (is_silent w r i past t) && is_live (acts w i past)

-- what it lights with: its priority, and what its show means
abbrev pub light : World → ℕ → List Happening → ℕ → Light
light w r past i = record {
  priority = (console_at w i).source.priority;
  slots = meant_slots w r i past;
}

-- the lights of receiver r
abbrev pub lights : World → ℕ → List Happening → ℕ → List Light
lights w r past t =
    map (light w r past) (filter (is_lit w r past t) (range_with_len 0 (length w.consoles)))

-- THE MERGE LAW. Where receiver r hears the consoles, and each that has sent for its universe is
-- fresh or silent: of those that are not silent and whose latest tick was before End, each slot is
-- the greatest that the ones of the greatest priority mean, and 0 where there are none
abbrev pub MergeLaw : Type 0
MergeLaw =
    (w : World) (events : List Happening) (r t : ℕ) → IsWorld w
    → (let past = events_done w events in
    last_event_moment past ≤ t → HearsAll w r past → AreSettled w r past t
    → (slot : ℕ) → slot < 512
    → slice_index (slots_at w r past t) slot ≡ merged_slot (lights w r past t) slot)

-- the datagram that an event hands to receiver r from console i
abbrev pub handed_from : World → ℕ → ℕ → List Happening → Occurrence → Option (List ℕ)
handed_from w r i past (Deliver q j universe k) =
    if q == r && j == i then datagram w j universe k past else None
handed_from w r i past _ = None

-- what receiver r would have accepted if the packets of console i alone had come
abbrev pub accepted_from : World → ℕ → ℕ → List Happening → List Entry
accepted_from w r i [] = []
accepted_from w r i (e ∷ past) =
    hears (universe_at w r) e.moment (handed_from w r i past e.what) (accepted_from w r i past)

-- CONSOLES ARE INDEPENDENT. With at most four consoles with CIDs of their own, and no stray heard
-- on its universe, a receiver answers to a packet of a console as if the packets of that console
-- alone had come
abbrev pub ConsolesAreIndependent : Type 0
ConsolesAreIndependent =
    (w : World) (events : List Happening) (r i universe k t : ℕ) (bytes : List ℕ) → IsWorld w
    → CidsDiffer w → length w.consoles ≤ 4 → i < length w.consoles
    → (let past = events_done w events in
    last_event_moment past ≤ t → NoStray w r past → datagram w i universe k past ≡ Some bytes
    → answer 4 (universe_at w r) (accepted_by w r past) t bytes
    ≡ answer 4 (universe_at w r) (accepted_from w r i past) t bytes)

-- ---- the wire

-- THE DATAGRAMS ARE THE STREAM. What a Deliver hands over as packet k of a console's universe is
-- that packet of the console's stream, in the only bytes that E1.31 allows for it
abbrev pub DatagramsArePackets : Type 0
DatagramsArePackets =
    (w : World) (i universe k : ℕ) (past : List Happening) (packet : Packet) → IsWorld w
    → i < length w.consoles → slice_get (packets_sent w i universe past) k ≡ Some packet
    → (let source = (console_at w i).source in
    (bytes : List ℕ) × (datagram w i universe k past ≡ Some bytes)
    × IsStreamPacket source universe k packet bytes
    × ((other : List ℕ) → IsStreamPacket source universe k packet other → other ≡ bytes))
