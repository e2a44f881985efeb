-- What a receiver keeps of one source: in the window, one of its newest packets. So what receivers
-- show: the headline, the window law and the merge law; and so the laws of the replies.
use Rattle.std.proofs.Common.{◌≡◌, ℕ, ◌+◌, ◌-◌, ◌%◌, ◌<◌, ◌≤◌, true, false, ◌||◌, ◌⊎◌, refl, ap}
use Rattle.std.proofs.Common.{arith, sym, inl, inr, ◌∙◌, List, [], ◌∷◌, map, length, Some, None}
use Rattle.std.proofs.Common.{suc, Bool, not, ◌&&◌, subst, Option, take, get_or, nat_lt, nat_le}
use Rattle.std.proofs.Common.{find, if◌then◌else◌, slice_index, slice_get, filter, IsTrue}
use Rattle.std.proofs.lemmas.Bool.{cases_lt, lt-ltb, le-ltb, ltb-true, and_parts, and_from}
use Rattle.std.proofs.lemmas.Bool.{leb-true}
use Rattle.sacn_receiver.specs.Source.{Entry, same_cid, records, record_of, is_after, is_accepted}
use Rattle.sacn_receiver.specs.Source.{is_there, newest}
use Rattle.sacn_receiver.specs.Laws.{accepted_packets}
use Rattle.sacn_receiver.proofs.Apart.{AllIn, IsFrom, newest_found, found_newest, one_of}
use Rattle.sacn_receiver.proofs.Independent.{room_for, accepted_in}
use Rattle.sacn_receiver.proofs.Members.{by_test, In, In_filter, In_filtered, In_map, In_mapped}
use Rattle.sacn_receiver.proofs.Members.{found_in, in_from_place, place_from_in}
use Rattle.wire_world.specs.Delivery.{Delivery, newest_of, arrival, IsInWindow, deliveries}
use Rattle.std.proofs.lemmas.List.{get_or-replicate}
use Rattle.std.proofs.lemmas.Option.{cond_some}
use Rattle.std.proofs.lemmas.List.FromFn.{length-range_with_len, get_or-range_with_len}
use Rattle.std.proofs.lemmas.List.FromFn.{get_or-map-range_with_len, fill_by_all}
use Rattle.std.proofs.lemmas.List.FromFn.{length-map-range_with_len}
use Rattle.desk_core.specs.Meaning.{dark}
use Rattle.desk_core.proofs.FrameSlots.{latest_full, unpatched_latest}
use Rattle.console.proofs.Streams.{latest}
use Rattle.sacn_receiver.specs.Shown.{Light, light_of, live, merged_slot, shown_slot}
use Rattle.sacn_receiver.proofs.Same.{merged_same}
use Rattle.wire_world.specs.Replies.{last_event_moment, events_done, skip_of, taken_reply}
use Rattle.wire_world.specs.Replies.{event_reply, reply_to, AreReplies, last_slots}
use Rattle.wire_world.specs.Laws.{IsAlone, NoStray, IsFreshIn, IsFresh, is_silent, is_live, is_lit}
use Rattle.wire_world.specs.Laws.{light, meant_slots, slots_at, accepted_from, Headline, IsOneOf}
use Rattle.wire_world.specs.Laws.{WindowLaw, UnpatchedSlotsAreZero, SilenceIsDark, MergeLaw}
use Rattle.wire_world.specs.Laws.{HearsAll, CidsDiffer, AreSettled, IsUnpatched, lights}
use Rattle.wire_world.specs.declared.reply.Reply.TheVariants.{Shown, Skipped}
use Rattle.wire_world.specs.Shows.{IsShown, reply_alone}
use Rattle.wire_world.proofs.Terms.{nat_tests, nat_list_eq_equiv, Identity, list_all, range_with_len}
use Rattle.wire_world.proofs.Terms.{All-map, slice_get_within, get_or_from_slice_get, same_Some}
use Rattle.wire_world.proofs.Terms.{Packet, shown_slots, Happening, World, console_at, universe_at}
use Rattle.wire_world.proofs.Terms.{IsWorld, acts, packets_sent, accepted_by, datagram, option_map}
use Rattle.wire_world.proofs.Terms.{option_map_or, Deliver, Show, Skip, Reply, packet_bytes}
use Rattle.wire_world.proofs.Wire.{entry, sent_is, newest_sent}
use Rattle.wire_world.proofs.Came.{IsInTime, source_of, were_in_time, were_sent, from_one, all_from}
use Rattle.wire_world.proofs.Came.{from_alone, from_console, follows, consoles_independent, IsRun}
use Rattle.wire_world.proofs.Came.{done_runs, timely, deliverer}

-- how far k is ahead of a, as bytes count it
abbrev steps : ℕ → ℕ → ℕ
steps a k = (k % 256 + 256 - a % 256) % 256

-- in the window, of two packets the numbers tell which is later
in_sequence : (a k : ℕ) → k ≤ a + 236 → a ≤ k + 19 → is_after (a % 256) (k % 256) ≡ nat_lt a k
in_sequence a k h g = elim (cases_lt a k) [
  | inl l ↦ (let s : steps a k ≡ k - a = omega arith in grind (arith, nat_tests))
  | inr l ↦
      (let s : (steps a k ≡ 0) ⊎ (237 ≤ steps a k) = grind arith in grind (arith, nat_tests))
]

-- what is known of the packet that is kept at moment t
pub record Keeps (t : ℕ) (ds : List Delivery) (a : Delivery) : Type 0 where
  pub not_far_behind : newest_of ds ≤ a.k + 19
  pub not_ahead : a.k ≤ newest_of ds
  pub newest_or_late : (a.k ≡ newest_of ds) ⊎ (arrival ds + 2500 ≤ a.moment)
  pub after_arrival : arrival ds ≤ a.moment
  pub past : a.moment ≤ t

-- one delivery more, in the window: when the newest arrived, and what is kept
module _ (t : ℕ) (d e a : Delivery) (ds : List Delivery) (h : Keeps d.moment (e ∷ ds) a)
    (low : newest_of (e ∷ ds) ≤ d.k + 19) (time : d.moment ≤ t) where
  taken : (nat_le (a.moment + 2500) d.moment || nat_lt a.k d.k) ≡ true → Keeps t (d ∷ e ∷ ds) d
  taken why = record {
    not_far_behind = omega arith;
    not_ahead = omega arith;
    newest_or_late = elim (cases_lt (newest_of (e ∷ ds)) d.k) [
      | inl newer ↦ inl (omega arith)
      | inr older ↦ inr (grind (arith, nat_tests, h.newest_or_late, h.after_arrival, h.past))
    ];
    after_arrival = grind (arith, nat_tests, h.after_arrival, h.past);
    past = time;
  }

  discarded : (nat_le (a.moment + 2500) d.moment || nat_lt a.k d.k) ≡ false → Keeps t (d ∷ e ∷ ds) a
  discarded why = let older : d.k ≤ a.k = grind (arith, nat_tests) in record {
    not_far_behind = omega (arith, h.not_far_behind, h.not_ahead);
    not_ahead = omega (arith, h.not_ahead);
    newest_or_late = elim h.newest_or_late [
      | inl at_newest ↦ inl (omega (arith, h.not_ahead))
      | inr late ↦ inr (grind (arith, nat_tests, h.not_ahead))
    ];
    after_arrival = grind (arith, nat_tests, h.not_ahead, h.after_arrival);
    past = omega (arith, h.past);
  }

module _ (c : Identity) where
  abbrev pub history : List Delivery → List Entry
  history ds = accepted_packets 4 (map (entry c) ds)

  one_cid : (d : Delivery) → IsFrom (c.cid ∷ []) (entry c d)
  one_cid d = one_of (entry c d) (c.cid ∷ []) (0, omega arith, refl)

  all_one : (ds : List Delivery) → AllIn (c.cid ∷ []) (map (entry c) ds)
  all_one ds = All-map (IsFrom (c.cid ∷ [])) (entry c) ds (λ k d l. one_cid (get_or ds k d))

  -- what is kept of the source, over all its deliveries
  pub record KeptOne (t : ℕ) (ds : List Delivery) : Type 0 where
    pub one : Delivery
    pub is_kept : find (same_cid c.cid) (history ds) ≡ Some (entry c one)
    pub came : In one ds
    pub facts : Keeps t ds one

  -- in the window a packet is accepted where the record is gone, or where it is a later one
  accepts : (ds : List Delivery) (a d : Delivery)
      → find (same_cid c.cid) (history ds) ≡ Some (entry c a) → d.k ≤ a.k + 236 → a.k ≤ d.k + 19
      → is_accepted 4 (history ds) d.moment c.cid (d.k % 256)
      ≡ (nat_le (a.moment + 2500) d.moment || nat_lt a.k d.k)
  accepts ds a d f ahead behind = by_test (nat_lt (d.moment - a.moment) 2500) (λ q.
      let l : nat_le (a.moment + 2500) d.moment ≡ false = grind (arith, nat_tests) in
      rw (f, q, l) (in_sequence a.k d.k ahead behind)) (λ q.
      let n : record_of (history ds) d.moment c.cid ≡ None = rw (f, q) in
      let l : nat_le (a.moment + 2500) d.moment ≡ true = grind (arith, nat_tests) in
      let room = room_for (c.cid ∷ []) (entry c d) d.moment (history ds)
      (accepted_in 4 (c.cid ∷ []) (map (entry c) ds) (all_one ds)) (one_cid d) n in
      rw (n, l) (lt-ltb (length (records (history ds) d.moment)) 4 (omega (arith, room))))

  kept_in_window : (t : ℕ) (d : Delivery) (ds : List Delivery) → IsInWindow (d ∷ ds)
      → IsInTime t (d ∷ ds) → KeptOne t (d ∷ ds)
  kept_in_window t d [] w i = record {
    one = d;
    is_kept = rw (nat_list_eq_equiv.refl c.cid);
    came = inl refl;
    facts = record {
      not_far_behind = omega arith;
      not_ahead = omega arith;
      newest_or_late = inl (omega arith);
      after_arrival = omega arith;
      past = i.0;
    };
  }
  kept_in_window t d (e ∷ ds) w i =
      let k = kept_in_window d.moment e ds w.2 i.1 in
      let h : List Entry = history (e ∷ ds) in
      let means = accepts (e ∷ ds) k.one d k.is_kept (omega (arith, k.facts.not_far_behind, w.1))
      (omega (arith, k.facts.not_ahead, w.0)) in
      by_test (is_accepted 4 h d.moment c.cid (d.k % 256)) (λ q. record {
        one = d;
        is_kept = rw (q, nat_list_eq_equiv.refl c.cid);
        came = inl refl;
        facts = taken t d e k.one ds k.facts w.0 i.0 (sym means ∙ q);
      }) (λ q. record {
        one = k.one;
        is_kept = rw q k.is_kept;
        came = inr k.came;
        facts = discarded t d e k.one ds k.facts w.0 i.0 (sym means ∙ q);
      })

  -- unless nothing came
  pub kept_of : (t : ℕ) (ds : List Delivery) → IsInWindow ds → IsInTime t ds
      → (ds ≡ []) ⊎ KeptOne t ds
  kept_of t [] w i = inl refl
  kept_of t (d ∷ ds) w i = inr (kept_in_window t d ds w i)

-- the light of what is kept, while it is there and has not ended
abbrev pub lit_by : ℕ → Option Entry → Option Light
lit_by t None = None
lit_by t (Some e) = if is_there t e && not e.ended then Some (light_of e) else None

-- a history whose entries are of these sources, each known by a number
module _ (t : ℕ) (h : List Entry) (cid : ℕ → List ℕ) (is : List ℕ)
    (owned : (e : Entry) → In e h → (j : ℕ) × In j is × (cid j ≡ e.cid)) (p : ℕ → Bool)
    (f : ℕ → Light) (lit : (j : ℕ) → In j is
    → lit_by t (find (same_cid (cid j)) h) ≡ (if p j then Some (f j) else None)) where
  one_lit : (l : Light) → In l (map light_of (live h t)) → In l (map f (filter p is))
  one_lit l i =
      let m = In_mapped light_of l (live h t) i in
      let a = In_filtered (λ e. not e.ended) m.0 (records h t) m.1 in
      let b = In_filtered (is_there t) m.0 (newest h) a.0 in
      let o = owned m.0 (found_in (same_cid m.0.cid) m.0 h (newest_found h m.0 b.0)).0 in
      let is_lit : (if p o.0 then Some (f o.0) else None) ≡ Some l =
      rw (← lit o.0 o.1, o.2, newest_found h m.0 b.0, and_from _ _ b.1 a.1) (ap Some (sym m.2)) in
      let s = cond_some (p o.0) (f o.0) l is_lit in
      rw (sym s.1) (In_map f o.0 (filter p is) (In_filter p o.0 is o.1 s.0))

  lit_one : (l : Light) → In l (map f (filter p is)) → In l (map light_of (live h t))
  lit_one l i =
      let m = In_mapped f l (filter p is) i in
      let a = In_filtered p m.0 is m.1 in
      found (find (same_cid (cid m.0)) h) m.0 refl (rw (lit m.0 a.0, a.1) (ap Some (sym m.2)))
    where
      found : (o : Option Entry) (j : ℕ) → find (same_cid (cid j)) h ≡ o → lit_by t o ≡ Some l
          → In l (map light_of (live h t))
      found None j e s = cc
      found (Some x) j e s =
          let c = cond_some (is_there t x && not x.ended) (light_of x) l s in
          let b = and_parts (is_there t x) (not x.ended) c.0 in
          rw (sym c.1) (In_map light_of x (live h t) (In_filter (λ e. not e.ended) x (records h t)
          (In_filter (is_there t) x (newest h) (found_newest (cid j) h x e) b.0) b.1))

  pub shown_lit : (slot : ℕ) → shown_slot h t slot ≡ merged_slot (map f (filter p is)) slot
  shown_lit slot = merged_same (map light_of (live h t)) (map f (filter p is)) slot one_lit lit_one

-- one light alone is what is shown
pub one_light : (l : Light) (slot : ℕ) → merged_slot (l ∷ []) slot ≡ slice_index l.slots slot
one_light l slot = grind (arith, nat_tests)

pub same_slots : (h : List Entry) (t : ℕ) (slots : List ℕ) → length slots ≡ 512
    → ((slot : ℕ) → slot < 512 → shown_slot h t slot ≡ slice_index slots slot)
    → shown_slots h t ≡ slots
same_slots h t slots size same =
    sym (fill_by_all (shown_slot h t) slots 512 0 size (λ slot l. sym (same slot l)))

pub dark_slots : (h : List Entry) (t : ℕ) → ((slot : ℕ) → shown_slot h t slot ≡ 0)
    → shown_slots h t ≡ dark
dark_slots h t zero =
    same_slots h t dark refl (λ slot l. zero slot ∙ sym (get_or-replicate 512 slot 0 0 l))

pub silent_at : (t : ℕ) (ds : List Delivery) (d : Delivery)
    → list_all (λ x. nat_le (x.moment + 2500) t) ds ≡ true → In d ds → d.moment + 2500 ≤ t
silent_at t [] d s i = absurd i
silent_at t (e ∷ ds) d s (inl same) = rw same (leb-true (e.moment + 2500) t (and_parts _ _ s).0)
silent_at t (e ∷ ds) d s (inr i) = silent_at t ds d (and_parts _ _ s).1 i

pub fresh_parts : (t : ℕ) (ps : List Packet) (ds : List Delivery) → IsFreshIn t ps ds
    → (suc (newest_of ds) ≡ length ps) × (t < arrival ds + 2500)
fresh_parts t ps [] f = absurd f
fresh_parts t ps (d ∷ ds) f = f

module _ (w : World) (v : IsWorld w) (r : ℕ) (past : List Happening) (run : IsRun w past)
    (no_stray : NoStray w r past) (t : ℕ) (time : last_event_moment past ≤ t) (i : ℕ)
    (window : IsInWindow (deliveries w r i past)) where
  -- what is kept of console i, and that it is what is found
  abbrev Kept : Type 0
  Kept = KeptOne (source_of w i) (last_event_moment past) (deliveries w r i past)

  kept : (deliveries w r i past ≡ []) ⊎ Kept
  kept = kept_of (source_of w i) (last_event_moment past) (deliveries w r i past) window
      (were_in_time w v r past run no_stray i)

  abbrev found : Option Entry
  found = find (same_cid (source_of w i).cid) (accepted_from w r i past)

  found_is : find (same_cid (source_of w i).cid) (accepted_from w r i past)
      ≡ find (same_cid (source_of w i).cid) (history (source_of w i) (deliveries w r i past))
  found_is = ap (find (same_cid (source_of w i).cid)) (from_one w v r past run no_stray i)

  found_none : deliveries w r i past ≡ [] → found ≡ None
  found_none e = found_is ∙ rw e

  was_sent : (k : Kept) → (i < length w.consoles)
      × (slice_get (packets_sent w i (universe_at w r) past) k.one.k ≡ Some k.one.packet)
  was_sent k = were_sent w v r past run no_stray i k.one k.came

  -- a console that is fresh is not silent, and one that is fresh or silent lights as it is to
  not_silent : IsFresh w r i past t → Kept → is_silent w r i past t ≡ false
  not_silent fresh k = let f = fresh_parts t _ (deliveries w r i past) fresh in
      by_test (is_silent w r i past t) (λ q. absurd (let s = silent_at t _ k.one q k.came in
      omega (arith, s, f.1, k.facts.after_arrival))) (λ q. q)

  recent : (k : Kept) → nat_lt (t - k.one.moment) 2500 ≡ nat_lt t (k.one.moment + 2500)
  recent k = let l : k.one.moment ≤ t = omega (arith, k.facts.past) in grind (arith, nat_tests)

  -- what console i is to light with
  abbrev due : Option Light
  due = if is_lit w r past t i then Some (light w r past i) else None

  lit_fresh : IsFresh w r i past t → (k : Kept) → lit_by t found ≡ due
  lit_fresh fresh k =
      let f =
      fresh_parts t (packets_sent w i (universe_at w r) past) (deliveries w r i past) fresh in
      let newest : k.one.k ≡ newest_of (deliveries w r i past) =
      grind (arith, k.facts.newest_or_late, k.facts.past, f.1) in
      let m = newest_sent w i (universe_at w r) k.one.k past k.one.packet (was_sent k).1
      (omega (arith, f.0, newest)) in
      let there : nat_lt (t - k.one.moment) 2500 ≡ true =
      recent k ∙ lt-ltb t (k.one.moment + 2500) (omega (arith, f.1, k.facts.after_arrival)) in
      let loud = not_silent fresh k in
      ap (lit_by t) (found_is ∙ k.is_kept) ∙ by_test (is_live (acts w i past))
      (λ q. rw (there, m.0, m.1, loud, q)) (λ q. rw (there, m.0, m.1, loud, q))

  lit_silent : is_silent w r i past t ≡ true → (deliveries w r i past ≡ []) ⊎ Kept
      → lit_by t found ≡ due
  lit_silent silent (inl none) = rw silent (ap (lit_by t) (found_none none))
  lit_silent silent (inr k) =
      let gone : nat_lt (t - k.one.moment) 2500 ≡ false =
      recent k ∙ le-ltb t (k.one.moment + 2500)
      (silent_at t (deliveries w r i past) k.one silent k.came) in
      rw silent (ap (lit_by t) (found_is ∙ k.is_kept) ∙ rw gone)

  lit_settled : ((packets_sent w i (universe_at w r) past ≡ [] → ⊥)
      → IsFresh w r i past t ⊎ IsTrue (is_silent w r i past t)) → lit_by t found ≡ due
  lit_settled state = elim kept [
    | inl none ↦ lit_silent (rw none) (inl none)
    | inr k ↦
        elim (state (λ none. let z : None ≡ Some k.one.packet = rw none at (was_sent k).1 in cc)) [
          | inl fresh ↦ lit_fresh fresh k
          | inr silent ↦ lit_silent silent (inr k)
        ]
  ]

  -- ---- a console alone

  module _ (alone : IsAlone w r i past) where
    shown_alone : (p : ℕ → Bool) (f : ℕ → Light)
        → lit_by t found ≡ (if p i then Some (f i) else None) → (slot : ℕ)
        → shown_slot (accepted_by w r past) t slot ≡ merged_slot (map f (filter p (i ∷ []))) slot
    shown_alone p f lit slot =
        ap (λ h. shown_slot h t slot) (all_from w v r past run no_stray i alone)
        ∙ shown_lit t (accepted_from w r i past) (λ j. (source_of w j).cid) (i ∷ [])
        (λ e m. (i, inl refl, from_alone w v r past run no_stray i e m)) p f
        (λ j m. elim m [ inl e ↦ rw e lit | inr n ↦ absurd n ]) slot

    pub means : IsFresh w r i past t → slots_at w r past t ≡ meant_slots w r i past
    means fresh = elim kept [
      | inl none ↦ absurd (subst (IsFreshIn t _) none fresh)
      | inr k ↦
          same_slots (accepted_by w r past) t (meant_slots w r i past)
          (latest_full (console_at w i).show (acts w i past)
          (universe_at w r - (console_at w i).base))
          (λ slot l. shown_alone (is_lit w r past t) (light w r past)
          (lit_settled (λ _. inl fresh)) slot ∙ by_test (is_live (acts w i past))
          (λ q. rw (not_silent fresh k, q) (one_light (light w r past i) slot))
          (λ q. rw (not_silent fresh k, q)
          (rw (latest (console_at w i) (universe_at w r) (acts w i past), q)
          (rw (get_or-replicate {A = ℕ} 512 slot 0 0 l)))))
    ]

    pub silence : is_silent w r i past t ≡ true → slots_at w r past t ≡ dark
    silence silent = dark_slots (accepted_by w r past) t (λ slot.
        shown_alone (is_lit w r past t) (light w r past) (lit_settled (λ _. inr silent)) slot
        ∙ rw silent)

    pub near : IsOneOf t (slots_at w r past t) (packets_sent w i (universe_at w r) past)
        (deliveries w r i past) ⊎ (slots_at w r past t ≡ dark)
    near = elim kept [
      | inl none ↦
          inr (dark_slots (accepted_by w r past) t (λ slot. shown_alone (λ _. false)
          (light w r past) (ap (lit_by t) (found_none none)) slot))
      | inr k ↦
          (let e : Entry = entry (source_of w i) k.one in
          let b : Bool = is_there t e && not e.ended in
          let shows : (slot : ℕ) → shown_slot (accepted_by w r past) t slot
          ≡ merged_slot (map (λ _. light_of e) (filter (λ _. b) (i ∷ []))) slot =
          shown_alone (λ _. b) (λ _. light_of e) (ap (lit_by t) (found_is ∙ k.is_kept)) in
          by_test b (λ q. inl (record {
            one = k.one;
            came = place_from_in k.one (deliveries w r i past) k.came;
            is_sent = (was_sent k).1;
            not_far_behind = k.facts.not_far_behind;
            not_ahead = k.facts.not_ahead;
            recent = ltb-true t (k.one.moment + 2500) (sym (recent k)
                ∙ (and_parts (is_there t e) (not e.ended) q).0);
            are = same_slots (accepted_by w r past) t k.one.packet.slots (sent_is w i
                (universe_at w r) k.one.k past k.one.packet (was_sent k).1
                (v i (was_sent k).0)).size
                (λ slot l. shows slot ∙ rw q (one_light (light_of e) slot));
          })) (λ q. inr (dark_slots (accepted_by w r past) t (λ slot. shows slot ∙ rw q))))
    ]

    pub zero : IsFresh w r i past t → (slot : ℕ) → slot < 512 → IsUnpatched w r i slot
        → slice_index (slots_at w r past t) slot ≡ 0
    zero fresh slot below none = ap (λ l. slice_index l slot) (means fresh)
        ∙ unpatched_latest (console_at w i).show (acts w i past)
        (universe_at w r - (console_at w i).base) slot below none

-- ---- several consoles

pub merges : (w : World) → IsWorld w → (r : ℕ) (past : List Happening) → IsRun w past → (t : ℕ)
    → last_event_moment past ≤ t → HearsAll w r past → AreSettled w r past t → (slot : ℕ)
    → slot < 512 → slice_index (slots_at w r past t) slot ≡ merged_slot (lights w r past t) slot
merges w v r past run t time hears state slot below =
    get_or-map-range_with_len (shown_slot (accepted_by w r past) t) 0 512 slot slot 0 below
    (omega arith)
    ∙ shown_lit t (accepted_by w r past) (λ j. (source_of w j).cid) (range_with_len 0 n)
    (λ e m. let c = from_console w v r past run hears.no_stray e m in
    let l : c.0 < length (range_with_len 0 n) = omega (arith, c.1, length-range_with_len 0 n) in
    let at : get_or (range_with_len 0 n) c.0 c.0 ≡ c.0 =
    omega (arith, get_or-range_with_len 0 n c.0 c.0 c.1) in
    (c.0, in_from_place c.0 (range_with_len 0 n) (c.0, l, at), c.2))
    (is_lit w r past t) (light w r past) (λ j m.
    let place = place_from_in j (range_with_len 0 n) m in
    let k : place.0 < n = omega (arith, place.1, length-range_with_len 0 n) in
    let l : j < n = omega (arith, place.2, get_or-range_with_len 0 n place.0 j k) in
    ap (lit_by t) (follows w v r past run hears.no_stray hears.apart hears.few j l)
    ∙ lit_settled w v r past run hears.no_stray t time j (hears.window j l) (state j l)) slot
  where
    n : ℕ
    n = length w.consoles

-- ---- the laws, of the events that were done

pub headline : Headline
headline w events r i t v time hears = means w v r (events_done w events) (done_runs w events)
    hears.no_stray t time i hears.window hears.alone

pub unpatched_zero : UnpatchedSlotsAreZero
unpatched_zero w events r i t slot v time hears fresh = zero w v r (events_done w events)
    (done_runs w events) hears.no_stray t time i hears.window hears.alone fresh slot

pub window_law : WindowLaw
window_law w events r i t v time hears = near w v r (events_done w events) (done_runs w events)
    hears.no_stray t time i hears.window hears.alone

pub silence_dark : SilenceIsDark
silence_dark w events r i t v time hears = silence w v r (events_done w events) (done_runs w events)
    hears.no_stray t time i hears.window hears.alone

pub merge_law : MergeLaw
merge_law w events r t v = merges w v r (events_done w events) (done_runs w events) t

-- ---- the laws, of what a rehearsal shows

-- what is shown: after these events, none of which was skipped, the slots at a moment not before
pub record WasShown (w : World) (past : List Happening) (r t : ℕ) (slots : List ℕ) : Type 0 where
  pub run : IsRun w past
  pub time : last_event_moment past ≤ t
  pub are : slots ≡ slots_at w r past t

pub was_shown : (w : World) (events : List Happening) (replies : List Reply) (last : List (List ℕ))
    → AreReplies w events replies → last ≡ last_slots w (events_done w events)
    → (r t : ℕ) (past : List Happening) (slots : List ℕ)
    → IsShown w events replies last r t past slots → WasShown w past r t slots
was_shown w events replies last are left r t past slots (inl is) =
    rw is.before (go (skip_of w before x) refl (same_Some (reply_to w before x) (Shown slots)
    (sym (are.1 is.place x is.asked) ∙ is.answered)))
  where
    before : List Happening
    before = events_done w (take is.place events)

    x : Happening
    x = record { moment = t; what = Show r }

    go : (o : Option Skip) → skip_of w before x ≡ o
        → option_map_or Skipped o (event_reply w before t (Show r)) ≡ Shown slots
        → WasShown w before r t slots
    go (Some s) e k = cc
    go None e k = record {
      run = done_runs w (take is.place events);
      time = (timely w before x e).after;
      are = cc;
    }
was_shown w events replies last are left r t past slots (inr is) =
    let shown : slice_get (last_slots w (events_done w events)) r ≡ Some slots =
    ap (λ l. slice_get l r) (sym left) ∙ is.left in
    let f : ℕ → List ℕ =
    λ r. slots_at w r (events_done w events) (last_event_moment (events_done w events)) in
    let count : ℕ = length w.receivers in
    let within = slice_get_within (last_slots w (events_done w events)) r slots shown in
    rw (is.at_last, is.all) (record {
      run = done_runs w events;
      time = omega arith;
      are = sym (get_or_from_slice_get _ r slots [] shown)
          ∙ get_or-map-range_with_len f 0 count r r []
          (omega (arith, within, length-map-range_with_len f 0 count)) (omega arith);
    })

pub answers_alone : (w : World) (events : List Happening) (replies : List Reply) → IsWorld w
    → AreReplies w events replies → length w.consoles ≤ 4
    → (j r i universe k t : ℕ) (past : List Happening)
    → slice_get events j ≡ Some (record { moment = t; what = Deliver r i universe k })
    → past ≡ events_done w (take j events)
    → skip_of w past (record { moment = t; what = Deliver r i universe k }) ≡ None
    → CidsDiffer w → NoStray w r past
    → slice_get replies j ≡ Some (reply_alone w past t r i universe k)
answers_alone w events replies v are few j r i u k t past e is s apart no_stray =
    let m = timely w before x (rw is at s) in
    let d = deliverer w before r i u k m.there in
    let here : datagram w i u k before ≡ Some (packet_bytes (console_at w i).source u k d.packet) =
    ap (option_map (packet_bytes (console_at w i).source u k)) d.is_sent in
    rw is (are.1 j x e
    ∙ ap (λ o. Some (option_map_or Skipped o (event_reply w before t (Deliver r i u k))))
    (rw is at s)
    ∙ rw here (ap (λ a. Some (taken_reply a)) (consoles_independent w (take j events) r i u k t _ v
    apart few d.there m.after (rw is at no_stray) here)))
  where
    before : List Happening
    before = events_done w (take j events)

    x : Happening
    x = record { moment = t; what = Deliver r i u k }
