-- Events that were not skipped: each is at its time, and names what is there. So of the packets of
-- the consoles that came to a receiver: all that it has accepted is of them, and so are the
-- deliveries of each console.
use Rattle.std.proofs.Common.{◌≡◌, ℕ, ◌<◌, ◌≤◌, Bool, true, false, refl, arith, List, [], ◌∷◌}
use Rattle.std.proofs.Common.{length, Option, Some, None, ap, sym, subst, inl, inr, ◌∙◌, map}
use Rattle.std.proofs.Common.{get_or, if◌then◌else◌, is_some, slice_get, nat_eq, slice_range}
use Rattle.std.proofs.Common.{filter, Contains, IsTrue, find}
use Rattle.std.specs.List.{fold}
use Rattle.std.proofs.lemmas.Bool.{eqb-true, cond_both}
use Rattle.sacn_source.specs.Stream.{last_packet}
use Rattle.sacn_receiver.specs.Taking.{accepted_entry, ignore_reason, answer, history_after}
use Rattle.wire_world.specs.Happened.{hears}
use Rattle.wire_world.specs.Replies.{last_event_moment, lack_skip, skip_of, done_one, events_done}
use Rattle.std.proofs.lemmas.List.{get_or-map, length-map}
use Rattle.sacn_receiver.specs.Arrivals.{Arrival, heard_all, last_arrival, NeverFall, not_heard}
use Rattle.sacn_receiver.specs.Arrivals.{is_heard, is_from, HeardAreFrom, packets_heard}
use Rattle.sacn_receiver.specs.Laws.{accepted_packets}
use Rattle.sacn_receiver.specs.Source.{Entry, same_cid, is_accepted}
use Rattle.sacn_receiver.proofs.Members.{by_test, In, In_mapped, in_from_get_or}
use Rattle.sacn_receiver.proofs.Independent.{heard_accepted, records_independent}
use Rattle.sacn_receiver.proofs.Independent.{answers_independent}
use Rattle.wire_world.specs.Delivery.{Delivery, delivered_more, delivered_by, deliveries}
use Rattle.wire_world.specs.Laws.{CidsDiffer, IsAlone, IsUnheard, NoStray, handed_from}
use Rattle.wire_world.specs.Laws.{accepted_from, ConsolesAreIndependent}
use Rattle.sacn_receiver.specs.Source as source
use Rattle.wire_world.proofs.Terms.{option_map_or, option_map, nat_tests, slice_get-get_or}
use Rattle.wire_world.proofs.Terms.{same_Some, front_packet, Packet, Ignored, Happening, Deliver, Stray}
use Rattle.wire_world.proofs.Terms.{World, universe_at, console_at, no_console, IsWorld}
use Rattle.wire_world.proofs.Terms.{packets_sent, datagram_to, accepted_by, nat_list_eq_equiv}
use Rattle.wire_world.proofs.Terms.{All-cons, All-map, Production, Identity, packet_bytes, Occurrence}
use Rattle.wire_world.proofs.Wire.{IsSendable, entry, cid_is, entry_is, heard_here, unheard_there}
use Rattle.wire_world.proofs.Wire.{unheard_left, sent_is, sent_stays}

-- none of these was skipped after those before it
abbrev pub IsRun : World → List Happening → Type 0
IsRun w [] = Unit {0}
IsRun w (e ∷ past) = (skip_of w past e ≡ None) × IsRun w past

one_runs : (w : World) (past : List Happening) (e : Happening) → IsRun w past
    → IsRun w (done_one w past e)
one_runs w past e run = cond_both (is_some (skip_of w past e)) _ _ (IsRun w) (λ _. run)
    (λ q. (grind (arith, nat_tests), run))

more_runs : (w : World) (events past : List Happening) → IsRun w past
    → IsRun w (fold (done_one w) past events)
more_runs w [] past run = run
more_runs w (e ∷ events) past run = more_runs w events (done_one w past e) (one_runs w past e run)

pub done_runs : (w : World) (events : List Happening) → IsRun w (events_done w events)
done_runs w events = more_runs w events [] tt

-- what is not skipped
pub record IsTimely (w : World) (past : List Happening) (e : Happening) : Type 0 where
  pub after : last_event_moment past ≤ e.moment
  pub there : lack_skip w past e.what ≡ None

pub timely : (w : World) (past : List Happening) (e : Happening) → skip_of w past e ≡ None
    → IsTimely w past e
timely w past e s = record { after = grind (arith, nat_tests); there = grind (arith, nat_tests) }

-- what is delivered was sent by a console that is there
pub record IsDelivered (w : World) (past : List Happening) (i u k : ℕ) : Type 0 where
  pub there : i < length w.consoles
  pub packet : Packet
  pub is_sent : slice_get (packets_sent w i u past) k ≡ Some packet

pub deliverer : (w : World) (past : List Happening) (r i u k : ℕ)
    → lack_skip w past (Deliver r i u k) ≡ None → IsDelivered w past i u k
deliverer w past r i u k h = record {
  there = grind (arith, nat_tests);
  packet = _;
  is_sent = slice_get-get_or (packets_sent w i u past) k last_packet (grind (arith, nat_tests));
}

-- a receiver's last packet is not after the last event
hears_last : (u : ℕ) (h : List source.Entry) (t : ℕ) (o : Option (List ℕ))
    → source.last_moment h ≤ t → source.last_moment (hears u t o h) ≤ t
hears_last u h t None l = l
hears_last u h t (Some d) l = go (ignore_reason 4 u h t d)
  where
    go : (o : Option Ignored)
        → source.last_moment (option_map_or (λ _. h) o (accepted_entry t (front_packet d) ∷ h)) ≤ t
    go None = omega arith
    go (Some x) = l

pub last_accepted : (w : World) (r : ℕ) (past : List Happening) → IsRun w past
    → source.last_moment (accepted_by w r past) ≤ last_event_moment past
last_accepted w r [] run = omega arith
last_accepted w r (e ∷ past) run =
    hears_last (universe_at w r) (accepted_by w r past) e.moment (datagram_to w r past e.what)
    (omega (arith, last_accepted w r past run.1, (timely w past e run.0).after))

-- a delivery, with the number of its console
abbrev pub Coming : Type 0
Coming = ℕ × Delivery

abbrev pub source_of : World → ℕ → Identity
source_of w i = (console_at w i).source

-- what a console has sent for the universe of a receiver
abbrev pub ours : World → ℕ → ℕ → List Happening → List Packet
ours w r i past = packets_sent w i (universe_at w r) past

-- the deliveries of one console
abbrev pub own : ℕ → List Coming → List Delivery
own i [] = []
own i (c ∷ cs) = if nat_eq c.0 i then c.1 ∷ own i cs else own i cs

-- a delivery as it arrives from console i, and all of them
abbrev arrival : World → ℕ → ℕ → Delivery → Arrival
arrival w r i d = record {
  moment = d.moment;
  datagram = packet_bytes (source_of w i) (universe_at w r) d.k d.packet;
}

abbrev arrivals : World → ℕ → List Coming → List Arrival
arrivals w r cs = map (λ c. arrival w r c.0 c.1) cs

-- the history that they leave
abbrev left : World → ℕ → List Arrival → List Entry
left w r arrivals = heard_all 4 (universe_at w r) arrivals

-- of these moments none is after t, nor after the one before it in the list
abbrev pub AreInTime : ℕ → List ℕ → Type 0
AreInTime t [] = Unit {0}
AreInTime t (m ∷ ms) = (m ≤ t) × AreInTime m ms

abbrev pub IsInTime : ℕ → List Delivery → Type 0
IsInTime t ds = AreInTime t (map (λ d. d.moment) ds)

pub later_too : (s t : ℕ) (ms : List ℕ) → s ≤ t → AreInTime s ms → AreInTime t ms
later_too s t [] l h = tt
later_too s t (m ∷ ms) l h = (omega (arith, h.0), h.1)

pub own_in_time : (i t : ℕ) (cs : List Coming) → AreInTime t (map (λ c. c.1.moment) cs)
    → IsInTime t (own i cs)
own_in_time i t [] h = tt
own_in_time i t (c ∷ cs) h = cond_both (nat_eq c.0 i) (c.1 ∷ own i cs) (own i cs) (IsInTime t)
    (λ _. (h.0, own_in_time i c.1.moment cs h.1))
    (λ _. later_too c.1.moment t _ h.0 (own_in_time i c.1.moment cs h.1))

pub own_from : (i : ℕ) (d : Delivery) (cs : List Coming) → In d (own i cs) → In (i, d) cs
own_from i d [] h = absurd h
own_from i d (c ∷ cs) h = by_test (nat_eq c.0 i) (λ q. elim (rw q at h) [
  | inl s ↦ inl (λ k. (sym (eqb-true c.0 i q) k, s k))
  | inr m ↦ inr (own_from i d cs m)
]) (λ q. inr (own_from i d cs (rw q at h)))

-- ---- what came

-- these came until moment t: they are of those sent, of each console those delivered, and all of
-- them together, or those of one console, leave these histories
record Came (w : World) (r t : ℕ) (ps : ℕ → List Packet) (ds : ℕ → List Delivery)
    (by : List Entry) (from : ℕ → List Entry) : Type 0 where
  cs : List Coming
  in_time : AreInTime t (map (λ c. c.1.moment) cs)
  were_sent : (c : Coming) → In c cs
      → (c.0 < length w.consoles) × (slice_get (ps c.0) c.1.k ≡ Some c.1.packet)
  ds_are : (i : ℕ) → ds i ≡ own i cs
  by_is : by ≡ left w r (arrivals w r cs)
  from_is : (i : ℕ) → from i ≡ left w r (map (arrival w r i) (ds i))

-- after these events
abbrev CameAfter : World → ℕ → List Happening → Type 0
CameAfter w r past = Came w r (last_event_moment past) (λ j. ours w r j past)
    (λ i. deliveries w r i past) (accepted_by w r past) (λ i. accepted_from w r i past)

module _ (w : World) (v : IsWorld w) (r : ℕ) (e : Happening) (past : List Happening)
    (after : last_event_moment past ≤ e.moment) (n : CameAfter w r past) where
  -- what an event may leave: nothing
  nothing : (by : List Entry) (from : ℕ → List Entry) → by ≡ accepted_by w r past
      → ((i : ℕ) → from i ≡ accepted_from w r i past)
      → Came w r e.moment (λ j. ours w r j (e ∷ past)) (λ i. deliveries w r i past) by from
  nothing by from same alike = record {
    cs = n.cs;
    in_time = later_too (last_event_moment past) e.moment _ after n.in_time;
    were_sent = λ c i. let s = n.were_sent c i in (
      s.0,
      sent_stays w c.0 (universe_at w r) c.1.k past c.1.packet s.1 e,
    );
    ds_are = n.ds_are;
    by_is = same ∙ n.by_is;
    from_is = λ i. alike i ∙ n.from_is i;
  }

  -- as a datagram that is not for the receiver, or is not heard by it
  unheard : (bytes : List ℕ) → is_some (not_heard (universe_at w r) bytes) ≡ true
      → (b : Bool) (h : List Entry)
      → hears (universe_at w r) e.moment (if b then Some bytes else None) h ≡ h
  unheard bytes s true h = unheard_left (universe_at w r) h e.moment bytes s
  unheard bytes s false h = refl

  -- or a packet of its universe, from console j
  packet : (j k : ℕ) (p : Packet) → j < length w.consoles → slice_get (ours w r j past) k ≡ Some p
      → Came w r e.moment (λ i. ours w r i (e ∷ past))
      (λ i. if nat_eq j i then delivered_more k e.moment (slice_get (ours w r i past) k)
      (deliveries w r i past) else deliveries w r i past) (hears (universe_at w r) e.moment (Some
      (packet_bytes (source_of w j) (universe_at w r) k p)) (accepted_by w r past))
      (λ i. hears (universe_at w r) e.moment (if nat_eq j i then Some
      (packet_bytes (source_of w j) (universe_at w r) k p) else None) (accepted_from w r i past))
  packet j k p there at =
      let m = nothing (accepted_by w r past) (λ i. accepted_from w r i past) refl (λ i. refl) in
      let d : Delivery = record { k = k; moment = e.moment; packet = p } in
      let here = λ (i : ℕ) (q : nat_eq j i ≡ true). rw (eqb-true j i q) at at in
      record {
        cs = (j, d) ∷ m.cs;
        in_time = (omega arith, m.in_time);
        were_sent = λ c i. elim i [
          | inl s ↦
              subst (λ (c : Coming). (c.0 < length w.consoles)
              × (slice_get (ours w r c.0 (e ∷ past)) c.1.k ≡ Some c.1.packet)) (sym s)
              (there, sent_stays w j (universe_at w r) k past p at e)
          | inr o ↦ m.were_sent c o
        ];
        ds_are = λ i. by_test (nat_eq j i) (λ q. rw (q, here i q, m.ds_are i))
            (λ q. rw q (m.ds_are i));
        by_is = ap (λ h. history_after 4 (universe_at w r) h e.moment (arrival w r j d).datagram)
            m.by_is;
        from_is = λ i. by_test (nat_eq j i) (λ q. rw (q, here i q, eqb-true j i q)
            (ap (λ h. history_after 4 (universe_at w r) h e.moment
            (arrival w r i d).datagram) (m.from_is i))) (λ q. rw q (m.from_is i));
      }

  leaves : (x : Occurrence) → lack_skip w past x ≡ None → IsUnheard w r x
      → Came w r e.moment (λ j. ours w r j (e ∷ past))
      (λ i. delivered_by w r i past e.moment x (deliveries w r i past))
      (hears (universe_at w r) e.moment (datagram_to w r past x) (accepted_by w r past))
      (λ i. hears (universe_at w r) e.moment (handed_from w r i past x) (accepted_from w r i past))
  leaves (Deliver q j x k) m s =
      let d = deliverer w past q j x k m in
      let bytes : List ℕ = packet_bytes (source_of w j) x k d.packet in
      by_test (nat_eq q r) (λ b. by_test (nat_eq x (universe_at w r)) (λ c.
      let same : x ≡ universe_at w r = eqb-true x (universe_at w r) c in
      let here : slice_get (ours w r j past) k ≡ Some d.packet =
      subst (λ x. slice_get (packets_sent w j x past) k ≡ Some d.packet) same d.is_sent in
      rw (b, c, same, here) (packet j k d.packet d.there here)) (λ c.
      let none : is_some (not_heard (universe_at w r) bytes) ≡ true =
      unheard_there (source_of w j) x k d.packet
      (sent_is w j x k past d.packet d.is_sent (v j d.there)) (universe_at w r) c in
      rw (b, c, d.is_sent) (nothing _ _ (unheard bytes none true (accepted_by w r past))
      (λ i. unheard bytes none (nat_eq j i) (accepted_from w r i past)))))
      (λ b. rw b (nothing _ _ refl (λ i. refl)))
  leaves (Stray q from to) m s =
      by_test (nat_eq q r) (λ b. rw b (nothing _ _ (unheard (slice_range w.strays from to)
      (s (eqb-true q r b)) true (accepted_by w r past)) (λ i. refl)))
      (λ b. rw b (nothing _ _ refl (λ i. refl)))
  leaves _ m s = nothing _ _ refl (λ i. refl)

came : (w : World) → IsWorld w → (r : ℕ) (past : List Happening) → IsRun w past → NoStray w r past
    → CameAfter w r past
came w v r [] run n = record {
  cs = [];
  in_time = tt;
  were_sent = λ c i. absurd i;
  ds_are = λ i. refl;
  by_is = refl;
  from_is = λ i. refl;
}
came w v r (e ∷ past) run n = let s = timely w past e run.0 in
    leaves w v r e past s.after (came w v r past run.1 n.1) e.what s.there n.0

-- what is accepted came
pub In_accepted : (e : Entry) (es : List Entry) → In e (accepted_packets 4 es) → In e es
In_accepted e [] i = i
In_accepted e (x ∷ es) i = cond_both (is_accepted 4 (accepted_packets 4 es) x.moment x.cid x.number)
    (x ∷ accepted_packets 4 es) (accepted_packets 4 es) (λ l. In e l → In e (x ∷ es))
    (λ _ j. elim j [ inl s ↦ inl s | inr k ↦ inr (In_accepted e es k) ])
    (λ _ j. inr (In_accepted e es j)) i

-- the history is what the source rule accepts, where all is heard
module _ {A : Type 0} (u : ℕ) (f : A → Arrival) (g : A → Entry) where
  never_fall : (t : ℕ) (xs : List A) → AreInTime t (map (λ x. (f x).moment) xs)
      → NeverFall (map f xs) × (last_arrival (map f xs) ≤ t)
  never_fall t [] h = (tt, omega arith)
  never_fall t (x ∷ xs) h = let m = never_fall (f x).moment xs h.1 in ((m.1, m.0), h.0)

  abbrev IsHeardAs : A → Type 0
  IsHeardAs x = (not_heard u (f x).datagram ≡ None)
      × (accepted_entry (f x).moment (front_packet (f x).datagram) ≡ g x)

  heard_are : (xs : List A) → ((x : A) → In x xs → IsHeardAs x)
      → packets_heard u (map f xs) ≡ map g xs
  heard_are [] h = refl
  heard_are (x ∷ xs) h = let s = h x (inl refl) in
      rw s.0 (simp s.1 (ap (λ l. g x ∷ l) (heard_are xs (λ y m. h y (inr m)))))

  accepted_are : (t : ℕ) (xs : List A) → AreInTime t (map (λ x. (f x).moment) xs)
      → ((x : A) → In x xs → IsHeardAs x) → heard_all 4 u (map f xs) ≡ accepted_packets 4 (map g xs)
  accepted_are t xs h are = heard_accepted 4 u (map f xs) (never_fall t xs h).0
      ∙ ap (accepted_packets 4) (heard_are xs are)

-- ---- what came of one console, and of all

module _ (w : World) (v : IsWorld w) (r : ℕ) (past : List Happening) (run : IsRun w past)
    (no_stray : NoStray w r past) where
  n : CameAfter w r past
  n = came w v r past run no_stray

  pub were_in_time : (i : ℕ) → IsInTime (last_event_moment past) (deliveries w r i past)
  were_in_time i = rw (n.ds_are i) (own_in_time i (last_event_moment past) n.cs n.in_time)

  abbrev WasSent : ℕ → Delivery → Type 0
  WasSent i d = (i < length w.consoles) × (slice_get (ours w r i past) d.k ≡ Some d.packet)

  pub were_sent : (i : ℕ) (d : Delivery) → In d (deliveries w r i past) → WasSent i d
  were_sent i d h = n.were_sent (i, d) (own_from i d n.cs (rw (n.ds_are i) at h))

  sendable : (i : ℕ) (d : Delivery) → WasSent i d
      → IsSendable (source_of w i) (universe_at w r) d.packet
  sendable i d s = sent_is w i (universe_at w r) d.k past d.packet s.1 (v i s.0)

  is_heard_as : (i : ℕ) (d : Delivery) → WasSent i d
      → IsHeardAs (universe_at w r) (arrival w r i) (entry (source_of w i)) d
  is_heard_as i d s = let is = sendable i d s in (
    heard_here (source_of w i) (universe_at w r) d.k d.packet is,
    entry_is (source_of w i) (universe_at w r) d.k d.packet is d.moment,
  )

  pub from_one : (i : ℕ) → accepted_from w r i past
      ≡ accepted_packets 4 (map (entry (source_of w i)) (deliveries w r i past))
  from_one i = n.from_is i ∙ accepted_are (universe_at w r) (arrival w r i)
      (entry (source_of w i)) (last_event_moment past) (deliveries w r i past) (were_in_time i)
      (λ d m. is_heard_as i d (were_sent i d m))

  abbrev entry_at : Coming → Entry
  entry_at c = entry (source_of w c.0) c.1

  -- what is accepted is from a console
  pub from_console : (e : Entry) → In e (accepted_by w r past)
      → (j : ℕ) × (j < length w.consoles) × ((source_of w j).cid ≡ e.cid)
  from_console e i =
      let all = accepted_are (universe_at w r) (λ (c : Coming). arrival w r c.0 c.1) entry_at
      (last_event_moment past) n.cs n.in_time (λ c m. is_heard_as c.0 c.1 (n.were_sent c m)) in
      let m = In_mapped entry_at e n.cs (In_accepted e _ (rw (n.by_is, all) at i)) in
      (m.0.0, (n.were_sent m.0 m.1).0, ap (λ (x : Entry). x.cid) (sym m.2))

  pub from_alone : (i : ℕ) (e : Entry) → In e (accepted_from w r i past)
      → (source_of w i).cid ≡ e.cid
  from_alone i e m =
      let d = In_mapped (entry (source_of w i)) e (deliveries w r i past) (In_accepted e _
      (rw (from_one i) at m)) in ap (λ (x : Entry). x.cid) (sym d.2)

  -- some of them are those of console i, where they are told by a test
  own_arrivals : (p : Arrival → Bool) (i : ℕ) (cs : List Coming)
      → ((c : Coming) → In c cs → p (arrival w r c.0 c.1) ≡ nat_eq c.0 i)
      → filter p (arrivals w r cs) ≡ map (arrival w r i) (own i cs)
  own_arrivals p i [] h = refl
  own_arrivals p i (c ∷ cs) h = let ih = own_arrivals p i cs (λ d m. h d (inr m)) in
      by_test (nat_eq c.0 i) (λ q. rw (h c (inl refl), q, ih, eqb-true c.0 i q))
      (λ q. rw (h c (inl refl), q) ih)

  -- one console alone
  pub all_from : (i : ℕ) → IsAlone w r i past → accepted_by w r past ≡ accepted_from w r i past
  all_from i alone = n.by_is ∙ ap (left w r) (sym (filter_true (arrivals w r n.cs))
      ∙ own_arrivals (λ _. true) i n.cs is_own ∙ ap (map (arrival w r i)) (sym (n.ds_are i)))
      ∙ sym (n.from_is i)
    where
      filter_true : (arrivals : List Arrival) → filter (λ _. true) arrivals ≡ arrivals
      filter_true [] = refl
      filter_true (a ∷ older) = ap (λ l. a ∷ l) (filter_true older)

      is_own : (c : Coming) → In c n.cs → true ≡ nat_eq c.0 i
      is_own c m = by_test (nat_eq c.0 i) sym (λ q. let s = n.were_sent c m in
          let z : None ≡ Some c.1.packet = rw (alone c.0 s.0 q) at s.1 in cc)

  -- at most four consoles with CIDs of their own
  module _ (apart : CidsDiffer w) (few : length w.consoles ≤ 4) where
    abbrev cids : List (List ℕ)
    cids = map (λ (p : Production). p.source.cid) w.consoles

    -- the arrival of a packet of console i is from one of them
    abbrev IsFromThese : Arrival → Type 0
    IsFromThese a = IsTrue (is_heard (universe_at w r) a)
        → Contains cids (front_packet a.datagram).fields.cid

    is_from_these : (i : ℕ) (a : Arrival) → i < length w.consoles
        → (front_packet a.datagram).fields.cid ≡ (source_of w i).cid → IsFromThese a
    is_from_these i a l e = λ _. rw e (
      i,
      simp length-map l,
      get_or-map (λ (p : Production). p.source.cid) w.consoles i no_console _ l,
    )

    cid_at : (c : Coming) → In c n.cs
        → (front_packet (arrival w r c.0 c.1).datagram).fields.cid ≡ (source_of w c.0).cid
    cid_at c m = cid_is (source_of w c.0) (universe_at w r) c.1.k c.1.packet
        (sendable c.0 c.1 (n.were_sent c m))

    from_these : HeardAreFrom cids (universe_at w r) (arrivals w r n.cs)
    from_these = All-map IsFromThese (λ (c : Coming). arrival w r c.0 c.1) n.cs (λ k d l.
        let c : Coming = get_or n.cs k d in
        let m = in_from_get_or n.cs k d l in
        is_from_these c.0 (arrival w r c.0 c.1) (n.were_sent c m).0 (cid_at c m))

    in_order : NeverFall (arrivals w r n.cs)
        × (last_arrival (arrivals w r n.cs) ≤ last_event_moment past)
    in_order = never_fall (universe_at w r) (λ (c : Coming). arrival w r c.0 c.1) entry_at _ n.cs
        n.in_time

    own_left : (i : ℕ) → i < length w.consoles
        → left w r (filter (is_from (source_of w i).cid) (arrivals w r n.cs))
        ≡ accepted_from w r i past
    own_left i l = ap (left w r) (own_arrivals (is_from (source_of w i).cid) i n.cs is_own
        ∙ ap (map (arrival w r i)) (sym (n.ds_are i))) ∙ sym (n.from_is i)
      where
        is_own : (c : Coming) → In c n.cs
            → is_from (source_of w i).cid (arrival w r c.0 c.1) ≡ nat_eq c.0 i
        is_own c m = rw (cid_at c m) (by_test (nat_eq c.0 i)
            (λ q. rw (q, eqb-true c.0 i q, nat_list_eq_equiv.refl (source_of w i).cid))
            (λ q. rw (q, apart i c.0 l (n.were_sent c m).0 q)))

    -- what is kept of a console is what its own deliveries leave
    pub follows : (i : ℕ) → i < length w.consoles
        → find (same_cid (source_of w i).cid) (accepted_by w r past)
        ≡ find (same_cid (source_of w i).cid) (accepted_from w r i past)
    follows i l = ap (find (same_cid (source_of w i).cid)) n.by_is
        ∙ records_independent 4 (universe_at w r) cids (arrivals w r n.cs) (simp length-map few)
        from_these in_order.0 (source_of w i).cid
        ∙ ap (find (same_cid (source_of w i).cid)) (own_left i l)

    same_answer : (i t : ℕ) (bytes : List ℕ) → i < length w.consoles → last_event_moment past ≤ t
        → (front_packet bytes).fields.cid ≡ (source_of w i).cid
        → answer 4 (universe_at w r) (accepted_by w r past) t bytes
        ≡ answer 4 (universe_at w r) (accepted_from w r i past) t bytes
    same_answer i t bytes l time cid = let a : Arrival = record { moment = t; datagram = bytes } in
        ap (λ h. answer 4 (universe_at w r) h t bytes) n.by_is
        ∙ answers_independent 4 (universe_at w r) cids a (arrivals w r n.cs) (simp length-map few)
        (All-cons IsFromThese a (arrivals w r n.cs) (is_from_these i a l cid) from_these)
        (omega (arith, in_order.1, time), in_order.0) ∙ rw (cid, own_left i l)

pub consoles_independent : ConsolesAreIndependent
consoles_independent w events r i x k t bytes v apart few l time no_stray is =
    same_answer w v r (events_done w events) (done_runs w events) no_stray apart few i t
    bytes l time (of_packet (slice_get (packets_sent w i x (events_done w events)) k) refl is)
  where
    of_packet : (o : Option Packet) → slice_get (packets_sent w i x (events_done w events)) k ≡ o
        → option_map (packet_bytes (source_of w i) x k) o ≡ Some bytes
        → (front_packet bytes).fields.cid ≡ (source_of w i).cid
    of_packet None e s = cc
    of_packet (Some p) e s = rw (sym (same_Some (packet_bytes (source_of w i) x k p) bytes s))
        (cid_is (source_of w i) x k p (sent_is w i x k (events_done w events) p e (v i l)))
