-- From the lines of plays to the slots of a receiver: laws over the definitions alone.
use Rattle.std.specs.Prelude.{◌≡◌, ℕ, ◌+◌, ◌-◌, ◌*◌, ◌<◌, ◌≤◌, ◌==◌, ◌⊎◌, Bool, not, ◌&&◌, IsTrue}
use Rattle.std.specs.Prelude.{IsFalse, List, [], length, map, filter, slice_index, is_some}
use Rattle.std.specs.Prelude.{Contains, slice_get, Some, None, ◌++◌}
use Rattle.std.specs.List.{range_with_len}
use Rattle.std.specs.FinMap as maps
use Rattle.std.specs.Str.{bytes_eq}
use Rattle.devices.specs.Send.{Send}
use Rattle.desk_core.specs.Meaning.{dark}
use Rattle.sacn_source.specs.Stream.{Packet}
use Rattle.sacn_receiver.specs.Arrivals.{not_heard}
use Rattle.sacn_receiver.specs.Shown.{Light, merged_slot}
use Rattle.wire_world.specs.Laws.{is_live}
use Rattle.wire_world.specs.Sends.{packet_run}
use Rattle.cueplayer.specs.Plays.{Play, IsPlay, play_at, ArePlays, play_history, sends_for}
use Rattle.cueplayer.specs.Plays.{stream_for}
use Rattle.cueplayer.specs.Plays.{frame_for}
use Rattle.cueplayer.specs.Traffic.{Traffic, AreOrigins, AreInOrder, slots_at, Receipt, receipts}
use Rattle.cueplayer.specs.Traffic.{receipts_of, newest_of, IsInWindow, IsFresh, is_silent}

-- ---- what is sent

-- THE SENDS ARE THE STREAM. What a play's link was offered for a universe is the universe's
-- stream, packet by packet
abbrev pub SendsAreTheStream : Type 0
SendsAreTheStream =
    (play : Play) (universe : ℕ) → IsPlay play
    → sends_for play universe
    ≡ packet_run play.production.source universe 0 (stream_for play universe)

-- a send is heard on no universe but its own
abbrev pub SendsAreAddressed : Type 0
SendsAreAddressed =
    (play : Play) (send : Send) (universe : ℕ) → IsPlay play
    → Contains play.offered send → IsFalse (send.universe == universe)
    → IsTrue (is_some (not_heard universe send.bytes))

-- ---- one play

-- a datagram is send k of a play for a universe
abbrev pub IsSend : Play → ℕ → ℕ → List ℕ → Type 0
IsSend play universe k datagram = slice_get (sends_for play universe) k ≡ Some datagram

-- of all that arrived at a receiver of a universe until moment t, it hears sends of one play alone,
-- and these stayed in the window
pub record HearsOne (play : Play) (universe t : ℕ) (traffic : Traffic ℕ) : Type 0 where
  pub origins : AreOrigins (IsSend play universe) universe traffic
  pub in_order : AreInOrder t traffic
  pub window : IsInWindow (receipts traffic)

-- THE HEADLINE. Whatever lines a play has carried out, and whatever arrived at a receiver: where it
-- hears the play alone, then whenever the newest that the play has sent for its universe first
-- arrived less than 2,500 ms ago, its slots are what the show means at the latest tick, under the
-- commands before that tick
abbrev pub Headline : Type 0
Headline =
    (play : Play) (universe t : ℕ) (traffic : Traffic ℕ) → IsPlay play
    → HearsOne play universe t traffic → IsFresh t (sends_for play universe) (receipts traffic)
    → slots_at universe traffic t ≡ frame_for play universe

-- and a slot whose dimmer is not patched is 0
abbrev pub UnpatchedSlotsAreZero : Type 0
UnpatchedSlotsAreZero =
    (play : Play) (universe t slot : ℕ) (traffic : Traffic ℕ) → IsPlay play
    → HearsOne play universe t traffic → IsFresh t (sends_for play universe) (receipts traffic)
    → slot < 512
    → maps.get play.production.show.patch
    (512 * (universe - play.production.base) + 1 + slot) ≡ None
    → slice_index (slots_at universe traffic t) slot ≡ 0

-- these slots are those of one packet that arrived less than 2,500 ms before moment t, at most 19
-- behind the newest that arrived
pub record IsOneOf (t : ℕ) (slots : List ℕ) (packets : List Packet) (those : List Receipt)
    : Type 0 where
  pub one : Receipt
  pub is_there : Contains those one
  pub packet : Packet
  pub is_packet : slice_get packets one.k ≡ Some packet
  pub not_far_behind : newest_of those ≤ one.k + 19
  pub not_ahead : one.k ≤ newest_of those
  pub recent : t < one.moment + 2500
  pub are : slots ≡ packet.slots

-- THE WINDOW LAW. Whether the newest arrived or not: where it hears one play alone, its slots are
-- those of one packet that arrived, the newest or up to 19 behind it, or all 0
abbrev pub WindowLaw : Type 0
WindowLaw =
    (play : Play) (universe t : ℕ) (traffic : Traffic ℕ) → IsPlay play
    → HearsOne play universe t traffic
    → IsOneOf t (slots_at universe traffic t) (stream_for play universe) (receipts traffic)
    ⊎ (slots_at universe traffic t ≡ dark)

-- and they are all 0 where none arrived less than 2,500 ms ago
abbrev pub SilenceIsDark : Type 0
SilenceIsDark =
    (play : Play) (universe t : ℕ) (traffic : Traffic ℕ) → IsPlay play
    → HearsOne play universe t traffic → IsTrue (is_silent t (receipts traffic))
    → slots_at universe traffic t ≡ dark

-- what arrived of a play's sends so far arrived of its sends later on: so at each moment the laws
-- speak of what the play has done by then
abbrev pub SendsStay : Type 0
SendsStay =
    (play later : Play) (more : List Send) (universe : ℕ) (traffic : Traffic ℕ)
    → later.offered ≡ play.offered ++ more
    → AreOrigins (IsSend play universe) universe traffic
    → AreOrigins (IsSend later universe) universe traffic

-- ---- several plays

-- a datagram is a send of one of the plays: its origin names the play and the send
abbrev pub IsSendOf : List Play → ℕ → ℕ × ℕ → List ℕ → Type 0
IsSendOf plays universe origin datagram =
    (origin.0 < length plays) × IsSend (play_at plays origin.0) universe origin.1 datagram

-- the CIDs of the plays differ
abbrev pub CidsDiffer : List Play → Type 0
CidsDiffer plays =
    (i j : ℕ) → i < length plays → j < length plays → IsFalse (j == i)
    → IsFalse (bytes_eq (play_at plays i).production.source.cid
    (play_at plays j).production.source.cid)

-- of all that arrived at a receiver of a universe until moment t, it hears sends of these plays
-- alone, at most four with CIDs of their own, and those of each stayed in the window
pub record HearsAll (plays : List Play) (universe t : ℕ) (traffic : Traffic (ℕ × ℕ)) : Type 0 where
  pub apart : CidsDiffer plays
  pub few : length plays ≤ 4
  pub origins : AreOrigins (IsSendOf plays universe) universe traffic
  pub in_order : AreInOrder t traffic
  pub window : (i : ℕ) → i < length plays → IsInWindow (receipts_of i traffic)

-- each play that has sent for the universe is fresh or silent
abbrev pub AreSettled : List Play → ℕ → Traffic (ℕ × ℕ) → ℕ → Type 0
AreSettled plays universe traffic t =
    (i : ℕ) → i < length plays → (sends_for (play_at plays i) universe ≡ [] → ⊥)
    → IsFresh t (sends_for (play_at plays i) universe) (receipts_of i traffic)
    ⊎ IsTrue (is_silent t (receipts_of i traffic))

-- play i lights the receiver: it is not silent, and its latest tick was before End
abbrev pub is_lit : List Play → Traffic (ℕ × ℕ) → ℕ → ℕ → Bool
is_lit plays traffic t i =
    not (is_silent t (receipts_of i traffic)) && is_live (play_history (play_at plays i))

-- what it lights with: its priority, and what its show means
abbrev pub light : List Play → ℕ → ℕ → Light
light plays universe i = record {
  priority = (play_at plays i).production.source.priority;
  slots = frame_for (play_at plays i) universe;
}

-- the lights of the receiver
abbrev pub lights : List Play → ℕ → Traffic (ℕ × ℕ) → ℕ → List Light
lights plays universe traffic t =
    map (light plays universe) (filter (is_lit plays traffic t) (range_with_len 0 (length plays)))

-- THE MERGE LAW. Where a receiver hears the plays, and each that has sent for its universe is fresh
-- or silent: of those that are not silent and whose latest tick was before End, each slot is the
-- greatest that the ones of the greatest priority mean, and 0 where there are none (E1.31-2018,
-- requirements for merging and arbitrating)
abbrev pub MergeLaw : Type 0
MergeLaw =
    (plays : List Play) (universe t : ℕ) (traffic : Traffic (ℕ × ℕ)) → ArePlays plays
    → HearsAll plays universe t traffic → AreSettled plays universe traffic t
    → (slot : ℕ) → slot < 512
    → slice_index (slots_at universe traffic t) slot
    ≡ merged_slot (lights plays universe traffic t) slot
