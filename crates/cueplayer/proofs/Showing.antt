-- The laws: what arrived of plays is what sources sent, and so what a receiver shows of them.
use Rattle.cueplayer.proofs.Terms.{◌≡◌, ℕ, suc, ◌-◌, ◌<◌, ◌≤◌, Bool, true, false, not, ◌&&◌, refl}
use Rattle.cueplayer.proofs.Terms.{ap, sym, ◌∙◌, arith, List, [], ◌∷◌, map, length, Option, Some}
use Rattle.cueplayer.proofs.Terms.{None, inl, inr, ◌⊎◌, ◌++◌, zero, nat_eq, slice_get}
use Rattle.cueplayer.proofs.Terms.{slice_index, is_none, filter, option_map, range_with_len}
use Rattle.cueplayer.proofs.Terms.{eq-eqb, get_or-replicate, get_or-map-range_with_len}
use Rattle.cueplayer.proofs.Terms.{front_packet, Identity, Packet, Ignored, Arrival, heard_all}
use Rattle.cueplayer.proofs.Terms.{last_arrival, NeverFall, not_heard, packets_heard}
use Rattle.cueplayer.proofs.Terms.{accepted_packets, shown_slot, shown_slots, merged_slot}
use Rattle.cueplayer.proofs.Terms.{accepted_entry, heard_accepted, by_test, In, In_map}
use Rattle.cueplayer.proofs.Terms.{place_from_in, dark, latest_full, unpatched_latest, latest}
use Rattle.cueplayer.proofs.Terms.{Delivery, is_live, IsFreshIn, heard_here, entry_is, AreInTime}
use Rattle.cueplayer.proofs.Terms.{later_too, own, own_from, same_slots, dark_slots, one_light}
use Rattle.cueplayer.proofs.Terms.{Play, IsPlay, play_at, ArePlays, play_history, stream_for}
use Rattle.cueplayer.proofs.Terms.{sends_for, frame_for, Traffic, TracedArrival, arrivals_in}
use Rattle.cueplayer.proofs.Terms.{IsOrigin, AreOrigins, receipts, with_receipt, receipts_of}
use Rattle.cueplayer.proofs.Terms.{send_number, Receipt, IsFresh, is_silent, Headline, MergeLaw}
use Rattle.cueplayer.proofs.Terms.{light, lights, IsSend, IsSendOf, AreSettled, HearsOne}
use Rattle.cueplayer.proofs.Terms.{HearsAll, UnpatchedSlotsAreZero, SendsStay, sent_to, sent_more}
use Rattle.cueplayer.proofs.Terms.{WindowLaw, SilenceIsDark, IsOneOf}
use Rattle.std.specs.Prelude.{is_some}
use Rattle.wire_world.specs.Delivery as wire
use Rattle.cueplayer.proofs.Sources as sources
use Rattle.cueplayer.proofs.Sources.{entry_at, shown_is, is_loud, near, IsNear}
use Rattle.cueplayer.proofs.Receipts.{receipt, receipts_in, window_same, fresh_same, silent_same}
use Rattle.cueplayer.proofs.Receipts.{newest_same}
use Rattle.cueplayer.proofs.Sends.{is_sent, newest, as_many, full}

none_false : (o : Option Ignored) → is_some o ≡ true → is_none o ≡ false
none_false (Some x) e = refl
none_false None e = cc

-- ---- what arrived, packet by packet

module _ (plays : List Play) (v : ArePlays plays) (u : ℕ) where
  abbrev who : ℕ → Identity
  who i = (play_at plays i).production.source

  abbrev ps : ℕ → List Packet
  ps i = stream_for (play_at plays i) u

  -- what arrived are these deliveries
  pub record Are (traffic : Traffic (ℕ × ℕ)) : Type 0 where
    pub cs : List (ℕ × Delivery)
    pub heard : packets_heard u (arrivals_in traffic) ≡ map (entry_at who) cs
    pub there : (c : ℕ × Delivery) → In c cs → c.0 < length plays
    pub at : (c : ℕ × Delivery) → In c cs → slice_get (ps c.0) c.1.k ≡ Some c.1.packet
    pub in_time : AreInTime (last_arrival (arrivals_in traffic)) (map (λ c. c.1.moment) cs)
    pub receipts_are : (i : ℕ) → receipts_of i traffic ≡ receipts_in (own i cs)

  module _ (a : Arrival) (older : Traffic (ℕ × ℕ))
      (after : last_arrival (arrivals_in older) ≤ a.moment) (r : Are older) where
    are_more : (o : Option (ℕ × ℕ)) → IsOrigin (IsSendOf plays u) u a.datagram o
        → Are (record { arrival = a; origin = o } ∷ older)
    are_more None is = record {
      cs = r.cs;
      heard = rw (none_false (not_heard u a.datagram) is) r.heard;
      there = r.there;
      at = r.at;
      in_time = later_too (last_arrival (arrivals_in older)) a.moment _ after r.in_time;
      receipts_are = r.receipts_are;
    }
    are_more (Some origin) is =
        let i : ℕ = origin.0 in
        let k : ℕ = origin.1 in
        let s = is_sent (play_at plays i) u k a.datagram (v i is.0) is.1 in
        let d : Delivery = record { k = k; moment = a.moment; packet = s.packet } in
        let here : not_heard u a.datagram ≡ None =
        ap (not_heard u) s.bytes_are ∙ heard_here (who i) u k s.packet s.sendable in
        let says : accepted_entry a.moment (front_packet a.datagram) ≡ entry_at who (i, d) =
        ap (λ b. accepted_entry a.moment (front_packet b)) s.bytes_are
        ∙ entry_is (who i) u k s.packet s.sendable a.moment in
        record {
          cs = (i, d) ∷ r.cs;
          heard = rw here (simp says (ap (λ l. entry_at who (i, d) ∷ l) r.heard));
          there = λ c m. elim m [ inl e ↦ rw e is.0 | inr o ↦ r.there c o ];
          at = λ c m. elim m [ inl e ↦ rw e s.at | inr o ↦ r.at c o ];
          in_time = (
            omega arith,
            later_too (last_arrival (arrivals_in older)) a.moment _ after r.in_time,
          );
          receipts_are = λ j. by_test (nat_eq i j) (λ q. rw (q, r.receipts_are j) refl)
              (λ q. rw q (r.receipts_are j));
        }

  are : (traffic : Traffic (ℕ × ℕ)) → AreOrigins (IsSendOf plays u) u traffic
      → NeverFall (arrivals_in traffic) → Are traffic
  are [] of order = record {
    cs = [];
    heard = refl;
    there = λ c i. absurd i;
    at = λ c i. absurd i;
    in_time = tt;
    receipts_are = λ i. refl;
  }
  are (c ∷ older) of order =
      are_more c.arrival older order.0 (are older of.1 order.1) c.origin of.0

  module _ (t : ℕ) (traffic : Traffic (ℕ × ℕ)) (hears : HearsAll plays u t traffic) where
    pub r : Are traffic
    r = are traffic hears.origins hears.in_order.0

    pub left : heard_all 4 u (arrivals_in traffic) ≡ accepted_packets 4 (map (entry_at who) r.cs)
    left = heard_accepted 4 u (arrivals_in traffic) hears.in_order.0
        ∙ ap (accepted_packets 4) r.heard

    window : (i : ℕ) → i < length plays → wire.IsInWindow (own i r.cs)
    window i l = window_same (own i r.cs) (rw (r.receipts_are i) at (hears.window i l))

    is_fresh : (i : ℕ) → i < length plays
        → IsFresh t (sends_for (play_at plays i) u) (receipts_of i traffic)
        → IsFreshIn t (ps i) (own i r.cs)
    is_fresh i l f = fresh_same t (sends_for (play_at plays i) u) (ps i) (own i r.cs)
        (as_many (play_at plays i) u (v i l)) (rw (r.receipts_are i) at f)

    silent : (i : ℕ) → is_silent t (receipts_of i traffic) ≡ sources.is_silent t (own i r.cs)
    silent i = ap (is_silent t) (r.receipts_are i) ∙ silent_same t (own i r.cs)

    settled : AreSettled plays u traffic t → (i : ℕ) → i < length plays → (ps i ≡ [] → ⊥)
        → IsFreshIn t (ps i) (own i r.cs) ⊎ (sources.is_silent t (own i r.cs) ≡ true)
    settled state i l some =
        elim (state i l (λ none. some (none_too (as_many (play_at plays i) u (v i l)) none))) [
          | inl f ↦ inl (is_fresh i l f)
          | inr s ↦ inr (sym (silent i) ∙ s)
        ]
      where
        none_too : {A B : Type 0} {xs : List A} {ys : List B} → length xs ≡ length ys → xs ≡ []
            → ys ≡ []
        none_too {ys = []} l e = refl
        none_too {ys = y ∷ ys} l e = absurd (let z = ap length e in omega (arith, l, z))

    abbrev live : ℕ → Bool
    live i = is_live (play_history (play_at plays i))

    abbrev means : ℕ → List ℕ
    means i = frame_for (play_at plays i) u

    newest_is : (i k : ℕ) (packet : Packet) → slice_get (ps i) k ≡ Some packet
        → suc k ≡ length (ps i) → (packet.slots ≡ means i) × (packet.ends ≡ not (live i))
    newest_is i k packet at l = newest (play_at plays i).production u k
        (play_history (play_at plays i)) packet at l

    pub shows : AreSettled plays u traffic t → (slot : ℕ)
        → shown_slot (heard_all 4 u (arrivals_in traffic)) t slot
        ≡ merged_slot (lights plays u traffic t) slot
    shows state slot = ap (λ h. shown_slot h t slot) left
        ∙ shown_is (length plays) who hears.few hears.apart r.cs r.there
        (last_arrival (arrivals_in traffic)) t hears.in_order.1 r.in_time ps r.at live means
        newest_is window (settled state) slot
        ∙ ap (λ (p : ℕ → Bool). merged_slot (map (light plays u) (filter p (range_with_len 0
        (length plays)))) slot) (λ i j. not (sym (silent j) i) && live j)

    pub loud : (i : ℕ) → i < length plays
        → IsFresh t (sends_for (play_at plays i) u) (receipts_of i traffic)
        → is_silent t (receipts_of i traffic) ≡ false
    loud i l f = silent i ∙ is_loud (length plays) who hears.few hears.apart r.cs r.there
        (last_arrival (arrivals_in traffic)) t hears.in_order.1 r.in_time ps r.at live means
        newest_is i l (window i l) (is_fresh i l f)

pub merge_law : MergeLaw
merge_law plays u t traffic v hears state slot below =
    get_or-map-range_with_len (shown_slot (heard_all 4 u (arrivals_in traffic)) t) 0 512 slot slot 0
    below (omega arith) ∙ shows plays v u t traffic hears state slot

-- ---- one play is several

abbrev of_first : TracedArrival ℕ → TracedArrival (ℕ × ℕ)
of_first c = record { arrival = c.arrival; origin = option_map (λ k. (0, k)) c.origin }

same_arrivals : (traffic : Traffic ℕ) → arrivals_in (map of_first traffic) ≡ arrivals_in traffic
same_arrivals [] = refl
same_arrivals (c ∷ older) = ap (λ l. c.arrival ∷ l) (same_arrivals older)

receipt_more : (m : ℕ) (o : Option ℕ) (xs ys : List Receipt) → xs ≡ ys
    → with_receipt m (send_number 0 (option_map (λ k. (0, k)) o)) xs ≡ with_receipt m o ys
receipt_more m None xs ys e = e
receipt_more m (Some k) xs ys e = ap (λ l. record { k = k; moment = m } ∷ l) e

same_receipts : (traffic : Traffic ℕ) → receipts_of 0 (map of_first traffic) ≡ receipts traffic
same_receipts [] = refl
same_receipts (c ∷ older) =
    receipt_more c.arrival.moment c.origin (receipts_of 0 (map of_first older)) (receipts older)
    (same_receipts older)

module _ (play : Play) (v : IsPlay play) (u t : ℕ) (traffic : Traffic ℕ)
    (hears : HearsOne play u t traffic) where
  abbrev plays : List Play
  plays = play ∷ []

  abbrev all : Traffic (ℕ × ℕ)
  all = map of_first traffic

  first : (i : ℕ) → i < 1 → i ≡ 0
  first i l = omega (arith, l)

  are_plays : ArePlays plays
  are_plays i l = rw (first i l) v

  origins : (cs : Traffic ℕ) → AreOrigins (IsSend play u) u cs
      → AreOrigins (IsSendOf plays u) u (map of_first cs)
  origins [] of = tt
  origins (c ∷ older) of = (go c.origin of.0, origins older of.1)
    where
      go : (o : Option ℕ) → IsOrigin (IsSend play u) u c.arrival.datagram o
          → IsOrigin (IsSendOf plays u) u c.arrival.datagram (option_map (λ k. (0, k)) o)
      go None is = is
      go (Some k) is = (omega arith, is)

  pub hears_all : HearsAll plays u t all
  hears_all = record {
    apart = λ i j l m q.
        absurd (let e : j ≡ i = omega (arith, l, m) in let z = eq-eqb j i e in cc);
    few = omega arith;
    origins = origins traffic hears.origins;
    in_order = rw (same_arrivals traffic) hears.in_order;
    window = λ i l. rw (first i l, same_receipts traffic) hears.window;
  }

  -- what is shown, in these terms
  same : (slot : ℕ) → shown_slot (heard_all 4 u (arrivals_in traffic)) t slot
      ≡ shown_slot (heard_all 4 u (arrivals_in all)) t slot
  same slot = ap (λ l. shown_slot (heard_all 4 u l) t slot) (sym (same_arrivals traffic))

  abbrev ordinal : ℕ
  ordinal = u - play.production.base

  pub means_so : IsFresh t (sends_for play u) (receipts traffic)
      → shown_slots (heard_all 4 u (arrivals_in traffic)) t ≡ frame_for play u
  means_so fresh =
      let f : IsFresh t (sends_for play u) (receipts_of 0 all) = rw (same_receipts traffic) fresh in
      let quiet = loud plays are_plays u t all hears_all 0 (omega arith) f in
      same_slots (heard_all 4 u (arrivals_in traffic)) t (frame_for play u)
      (latest_full play.production.show (play_history play) ordinal)
      (λ slot l. same slot ∙ shows plays are_plays u t all hears_all
      (λ i m some. inl (rw (first i m) f)) slot
      ∙ by_test (is_live (play_history play))
      (λ q. rw (quiet, q) (one_light (light plays u 0) slot))
      (λ q. rw (
        quiet,
        q,
        latest play.production u (play_history play),
        q,
        get_or-replicate {A = ℕ} 512 slot 0 0 l,
      )))

  pub silence : is_silent t (receipts traffic) ≡ true
      → shown_slots (heard_all 4 u (arrivals_in traffic)) t ≡ dark
  silence s =
      let f : is_silent t (receipts_of 0 all) ≡ true = rw (same_receipts traffic) s in
      dark_slots (heard_all 4 u (arrivals_in traffic)) t (λ slot.
      same slot ∙ shows plays are_plays u t all hears_all (λ i m some. inr (rw (first i m) f)) slot
      ∙ rw f refl)

  pub is_near : IsOneOf t (shown_slots (heard_all 4 u (arrivals_in traffic)) t) (stream_for play u)
      (receipts traffic) ⊎ (shown_slots (heard_all 4 u (arrivals_in traffic)) t ≡ dark)
  is_near =
      let a = r plays are_plays u t all hears_all in
      let ds : List Delivery = own 0 a.cs in
      let is : receipts traffic ≡ receipts_in ds = sym (same_receipts traffic) ∙ a.receipts_are 0 in
      let shows : (slot : ℕ) → shown_slot (heard_all 4 u (arrivals_in traffic)) t slot
      ≡ shown_slot (accepted_packets 4 (map (entry_at (λ _. play.production.source)) a.cs)) t slot =
      λ slot.
      same slot ∙ ap (λ h. shown_slot h t slot)
      (left plays are_plays u t all hears_all ∙ ap (accepted_packets 4)
      (one_source a.cs a.there)) in
      elim (near play.production.source a.cs a.there (last_arrival (arrivals_in all)) t
      hears_all.in_order.1 a.in_time (window_same ds (rw is at hears.window))) [
        | inl n ↦
            (let at : slice_get (stream_for play u) n.one.k ≡ Some n.one.packet =
            a.at (0, n.one) (own_from 0 n.one a.cs n.came) in
            inl (record {
              one = receipt n.one;
              is_there = rw is (place_from_in (receipt n.one) (receipts_in ds)
                  (In_map receipt n.one ds n.came));
              packet = n.one.packet;
              is_packet = at;
              not_far_behind = rw (is, newest_same ds) n.not_far_behind;
              not_ahead = rw (is, newest_same ds) n.not_ahead;
              recent = n.recent;
              are = same_slots (heard_all 4 u (arrivals_in traffic)) t n.one.packet.slots
                  (full play.production u n.one.k (play_history play) n.one.packet at)
                  (λ slot l. shows slot ∙ n.shows slot);
            }))
        | inr none ↦
            inr (dark_slots (heard_all 4 u (arrivals_in traffic)) t
            (λ slot. shows slot ∙ none slot))
      ]
    where
      one_source : (cs : List (ℕ × Delivery)) → ((c : ℕ × Delivery) → In c cs → c.0 < 1)
          → map (entry_at (who plays are_plays u)) cs
          ≡ map (entry_at (λ _. play.production.source)) cs
      one_source [] there = refl
      one_source (c ∷ cs) there =
          rw (one_source cs (λ d m. there d (inr m)), first c.0 (there c (inl refl))) refl

pub headline : Headline
headline play u t traffic v hears fresh = means_so play v u t traffic hears fresh

pub unpatched_zero : UnpatchedSlotsAreZero
unpatched_zero play u t slot traffic v hears fresh below none =
    ap (λ l. slice_index l slot) (means_so play v u t traffic hears fresh)
    ∙ unpatched_latest play.production.show (play_history play) (u - play.production.base)
    slot below
    none

pub window_law : WindowLaw
window_law play u t traffic v hears = is_near play v u t traffic hears

pub silence_dark : SilenceIsDark
silence_dark play u t traffic v hears s = silence play v u t traffic hears s

-- ---- a play goes on

get_front : {A : Type 0} (xs ys : List A) (k : ℕ) (x : A) → slice_get xs k ≡ Some x
    → slice_get (xs ++ ys) k ≡ Some x
get_front [] ys k x e = cc
get_front (y ∷ xs) ys zero x e = e
get_front (y ∷ xs) ys (suc k) x e = get_front xs ys k x e

pub sends_stay : SendsStay
sends_stay play later more u traffic e of = go traffic of
  where
    stays : (o : Option ℕ) (d : List ℕ) → IsOrigin (IsSend play u) u d o
        → IsOrigin (IsSend later u) u d o
    stays None d is = is
    stays (Some k) d is = ap (λ l. slice_get (sent_to u l) k) e
        ∙ ap (λ l. slice_get l k) (sent_more u play.offered more)
        ∙ get_front (sent_to u play.offered) (sent_to u more) k d is

    go : (cs : Traffic ℕ) → AreOrigins (IsSend play u) u cs → AreOrigins (IsSend later u) u cs
    go [] is = tt
    go (c ∷ older) is = (stays c.origin c.arrival.datagram is.0, go older is.1)
