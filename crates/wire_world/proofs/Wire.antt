-- The datagram of a packet, read back, and what a console has sent: each packet is one that can be
-- sent, it stays, the newest is the frame of the latest tick, and the datagrams are the packets.
use Rattle.std.proofs.Common.{◌≡◌, ℕ, ◌-◌, ◌%◌, ◌≤◌, Bool, true, false, not, refl, ap, sym, subst}
use Rattle.std.proofs.Common.{◌∙◌, arith, List, ◌++◌, length, replicate, append-nil, Option, Some}
use Rattle.std.proofs.Common.{None, suc, [], ◌∷◌, drop, if◌then◌else◌, nat_lt, nat_eq, is_some}
use Rattle.std.proofs.Common.{bit_and, slice_get, Contains}
use Rattle.std.proofs.lemmas.List.{take_all, length-take, length-drop}
use Rattle.std.proofs.lemmas.Bool.{eq-eqb, cond-true, eqb-true}
use Rattle.sacn_packet.specs.Wire.{WirePacket as WirePacket, IsData, HasPacket}
use Rattle.sacn_packet.specs.Faults.{fault_of}
use Rattle.sacn_packet.proofs.Packets.{layers_are_data, same_packet}
use Rattle.sacn_packet.proofs.Found.{readable_from_packet, packet_ends}
use Rattle.sacn_packet.proofs.Readable.{none_from_readable}
use Rattle.sacn_receiver.specs.declared.answer.Ignored.TheVariants.{Unreadable}
use Rattle.sacn_receiver.specs.Arrivals.{not_heard}
use Rattle.sacn_receiver.specs.Source.{Entry, last_moment}
use Rattle.sacn_receiver.specs.Taking.{accepted_entry, off_reason, history_after}
use Rattle.sacn_receiver.proofs.Members.{by_test}
use Rattle.wire_world.specs.Datagrams.{fields_at, packet_bytes}
use Rattle.wire_world.specs.Delivery.{Delivery}
use Rattle.wire_world.specs.World.{IsConsole}
use Rattle.std.proofs.lemmas.List.Elements.{All-contains}
use Rattle.patch_core.specs.Frame.{is_universe}
use Rattle.desk_core.specs.Meaning.{latest_frame}
use Rattle.desk_core.proofs.Universes.{numbers_in}
use Rattle.sacn_source.specs.Identify.{IsStreamPacket, options_of, packet_fields}
use Rattle.console.proofs.Streams.{stream_full, packet_stays, newest_means}
use Rattle.wire_world.specs.Happened.{acts_after_call}
use Rattle.wire_world.specs.Laws.{is_live, DatagramsArePackets}
use Rattle.std.proofs.lemmas.Map.Views.{Contains-from_any}
use Rattle.wire_world.proofs.Terms.{option_or, option_map, nat_tests, front_packet, Identity, Packet}
use Rattle.wire_world.proofs.Terms.{Ignored, IsIdentity, World, console_at, plays}
use Rattle.wire_world.proofs.Terms.{get_or_from_slice_get, slice_get_within, Refused, Call, Act}
use Rattle.wire_world.proofs.Terms.{refusal, HoldsFull, Production, universes_of, Happening}
use Rattle.wire_world.proofs.Terms.{console_call, unless_refused, acts, stream, packets_sent}

-- a packet says all of its source
pub source_of : (who : Identity) (universe sequence options : ℕ) (bytes slots : List ℕ)
    → IsData bytes (packet_fields who universe sequence options) slots → IsIdentity who
source_of who universe sequence options bytes slots is =
    let cid = length-take 16 (drop 22 bytes) in
    let name = length-take 64 (drop 44 bytes) in
    record {
      cid_size = omega (arith, ap length is.cid, cid, length-drop 22 bytes, is.size);
      name_size = omega (arith, ap length is.name, name, length-drop 44 bytes, is.size);
      priority_range = is.priority_range;
    }

-- a universe that is played is one of the console's
pub played_in : (p : Production) (u : ℕ) → plays p u ≡ true → Contains (universes_of p) u
played_in p u =
    Contains-from_any {eq = λ a b. nat_eq b a} (λ a b e. sym (eqb-true b a e)) u (universes_of p)

-- what a delivery of a source's packet is to a receiver
abbrev pub entry : Identity → Delivery → Entry
entry identity d = record {
  cid = identity.cid;
  number = d.k % 256;
  moment = d.moment;
  priority = identity.priority;
  slots = d.packet.slots;
  ended = d.packet.ends;
}

-- a source may send this packet for this universe
pub record IsSendable (source : Identity) (universe : ℕ) (packet : Packet) : Type 0 where
  pub who : IsIdentity source
  pub size : length packet.slots ≡ 512
  pub low : 1 ≤ universe
  pub high : universe ≤ 63999

-- of its options only bit 0x40 is set, and only at the end
options_are : (b : Bool) → (not (nat_eq (bit_and (if b then 0x40 else 0) 0x40) 0) ≡ b)
    × (not (nat_eq (bit_and (if b then 0x40 else 0) 0x80) 0) ≡ false)
options_are true = (refl, refl)
options_are false = (refl, refl)

module _ (source : Identity) (universe k : ℕ) (packet : Packet)
    (is : IsSendable source universe packet) where
  abbrev bytes : List ℕ
  bytes = packet_bytes source universe k packet

  abbrev wire : WirePacket
  wire = record { fields = fields_at source universe k packet; slots = packet.slots }

  pub is_data : IsData (packet_bytes source universe k packet)
      (fields_at source universe k packet) packet.slots
  unfolding packet_bytes
  is_data = layers_are_data 512 (fields_at source universe k packet) packet.slots
      is.who.cid_size is.who.name_size is.size (omega arith) is.who.priority_range (omega arith)
      is.low is.high

  has : HasPacket bytes wire
  has = (length bytes, rw (take_all (length bytes) bytes (omega arith)) is_data)

  front_is : front_packet bytes ≡ wire
  front_is = packet_ends bytes wire has

  pub cid_is : (front_packet (packet_bytes source universe k packet)).fields.cid ≡ source.cid
  cid_is = ap (λ (p : WirePacket). p.fields.cid) front_is

  pub entry_is : (t : ℕ) → accepted_entry t (front_packet (packet_bytes source universe k packet))
      ≡ entry source (record { k = k; moment = t; packet = packet })
  entry_is t = ap (accepted_entry t) front_is ∙ (λ i. record {
    cid = source.cid;
    number = k % 256;
    moment = t;
    priority = source.priority;
    slots = full i;
    ended = (options_are packet.ends).0 i;
  })
    where
      full : packet.slots ++ replicate (512 - length packet.slots) 0 ≡ packet.slots
      full = rw is.size (append-nil packet.slots)

  -- it is heard on its own universe alone
  by_wire : (u : ℕ) → not_heard u bytes ≡ off_reason u wire
  by_wire u = ap (λ f. option_or (option_map Unreadable f) (off_reason u (front_packet bytes)))
      (none_from_readable bytes (readable_from_packet bytes has.0
      (fields_at source universe k packet) packet.slots has.1)) ∙ ap (off_reason u) front_is

  pub heard_here : not_heard universe (packet_bytes source universe k packet) ≡ None
  heard_here = by_wire universe ∙ rw (eq-eqb universe universe refl, (options_are packet.ends).1)

  pub unheard_there : (u : ℕ) → nat_eq universe u ≡ false
      → is_some (not_heard u (packet_bytes source universe k packet)) ≡ true
  unheard_there u e = ap is_some (by_wire u) ∙ rw e

-- a datagram that is not heard changes nothing
pub unheard_left : (u : ℕ) (h : List Entry) (t : ℕ) (bytes : List ℕ)
    → is_some (not_heard u bytes) ≡ true → history_after 4 u h t bytes ≡ h
unheard_left u h t bytes s = go (nat_lt t (last_moment h)) (fault_of bytes)
    (off_reason u (front_packet bytes)) refl refl refl s
  where
    go : (b : Bool) (f : Option _) (n : Option Ignored) → nat_lt t (last_moment h) ≡ b
        → fault_of bytes ≡ f → off_reason u (front_packet bytes) ≡ n
        → is_some (option_or (option_map Unreadable f) n) ≡ true → history_after 4 u h t bytes ≡ h
    go true f n p q r s = rw p
    go false (Some f) n p q r s = rw (p, q)
    go false None (Some n) p q r s = rw (p, q, r)
    go false None None p q r s = cc

-- a call leaves the packets of a stream
module _ (c : Production) (u : ℕ) (h : List Act) (k : ℕ) (p : Packet)
    (at : slice_get (stream c u h) k ≡ Some p) where
  unless_stays : (r : Option Refused) (a : Act)
      → slice_get (stream c u (unless_refused r a h)) k ≡ Some p
  unless_stays None a = packet_stays c u a h k p at
  unless_stays (Some r) a = at

  acted_stays : (t : ℕ) (o : Option Call) → slice_get (stream c u (acts_after_call c.show t o h)) k
      ≡ Some p
  acted_stays t None = at
  acted_stays t (Some call) = unless_stays (refusal c.show h (record { moment = t; call = call })) _

module _ (w : World) (i u k : ℕ) (past : List Happening) (p : Packet)
    (at : slice_get (packets_sent w i u past) k ≡ Some p) where
  -- who sends a packet plays its universe
  sent_plays : (plays (console_at w i) u ≡ true)
      × (slice_get (stream (console_at w i) u (acts w i past)) k ≡ Some p)
  sent_plays = by_test (plays (console_at w i) u) (λ q. (q, rw q at at))
      (λ q. let none : slice_get [] k ≡ Some p = rw q at at in cc)

  pub sent_is : IsConsole (console_at w i) → IsSendable (console_at w i).source u p
  sent_is c =
      let ps : List Packet = stream (console_at w i) u (acts w i past) in
      let number : is_universe u ≡ true =
      All-contains (λ n. is_universe n ≡ true) (universes_of (console_at w i)) u
      (numbers_in (console_at w i).show.patch (console_at w i).base c.base_in)
      (played_in (console_at w i) u sent_plays.0) in
      record {
        who = c.source_in u sent_plays.0;
        size = subst HoldsFull (get_or_from_slice_get ps k p p sent_plays.1)
            (stream_full (console_at w i) u (acts w i past) k p
            (slice_get_within ps k p sent_plays.1));
        low = grind (arith, nat_tests, number);
        high = grind (arith, nat_tests, number);
      }

  pub sent_stays : (e : Happening) → slice_get (packets_sent w i u (e ∷ past)) k ≡ Some p
  sent_stays e = rw sent_plays.0 (acted_stays (console_at w i) u (acts w i past) k p sent_plays.1
      e.moment (console_call i e.what))

  pub newest_sent : suc k ≡ length (packets_sent w i u past)
      → (p.slots ≡ latest_frame (console_at w i).show (acts w i past) (u - (console_at w i).base))
      × (p.ends ≡ not (is_live (acts w i past)))
  newest_sent l = newest_means (console_at w i) u (acts w i past) k p sent_plays.1
      (l ∙ ap length (cond-true _ (stream (console_at w i) u (acts w i past)) [] sent_plays.0))

-- a packet of a stream has no other bytes: what a link was offered is what is handed over
pub bytes_are : (source : Identity) (universe k : ℕ) (packet : Packet) (bytes : List ℕ)
    → length packet.slots ≡ 512 → IsStreamPacket source universe k packet bytes
    → bytes ≡ packet_bytes source universe k packet
bytes_are source universe k packet bytes size is =
    same_packet bytes (fields_at source universe k packet) packet.slots is
    ∙ sym (same_packet (packet_bytes source universe k packet)
    (fields_at source universe k packet) packet.slots (is_data source universe k packet (record {
      who = source_of source universe (k % 256) (options_of packet.ends) bytes packet.slots is;
      size = size;
      low = is.universe_from_1;
      high = is.universe_to_63999;
    })))

pub datagrams_packets : DatagramsArePackets
datagrams_packets w i universe k past packet v l e =
    let s = sent_is w i universe k past packet e (v i l) in
    let source = (console_at w i).source in (
      packet_bytes source universe k packet,
      ap (option_map (packet_bytes source universe k)) e,
      is_data source universe k packet s,
      λ other. bytes_are source universe k packet other s.size,
    )
