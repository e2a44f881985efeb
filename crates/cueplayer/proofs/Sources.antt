-- What a receiver shows of deliveries from several sources: the core of the laws, which knows no
-- play and no world.
use Rattle.cueplayer.proofs.Terms.{◌≡◌, ℕ, ◌+◌, ◌-◌, ◌<◌, ◌≤◌, Bool, true, false, not, ◌&&◌, ◌⊎◌}
use Rattle.cueplayer.proofs.Terms.{refl, ap, arith, sym, subst, inl, inr, ◌∙◌, List, [], ◌∷◌, map}
use Rattle.cueplayer.proofs.Terms.{length, get_or, Option, Some, None, suc, filter, find}
use Rattle.cueplayer.proofs.Terms.{if◌then◌else◌, nat_eq, nat_lt, nat_le, slice_get, IsTrue}
use Rattle.cueplayer.proofs.Terms.{slice_index, Contains, All, list_all, range_with_len, bytes_eq}
use Rattle.cueplayer.proofs.Terms.{eqb-true, lt-ltb, le-ltb, ltb-true, and_parts, eq-eqb}
use Rattle.cueplayer.proofs.Terms.{nat_tests, nat_list_eq_equiv, All-map, length-range_with_len}
use Rattle.cueplayer.proofs.Terms.{get_or-range_with_len, get_or-map-range_with_len}
use Rattle.cueplayer.proofs.Terms.{length-map-range_with_len, Identity, Packet, accepted_packets}
use Rattle.cueplayer.proofs.Terms.{Entry, same_cid, is_there, Light, light_of, merged_slot}
use Rattle.cueplayer.proofs.Terms.{shown_slot, sources_independent, by_test, In, In_mapped}
use Rattle.cueplayer.proofs.Terms.{in_from_get_or, in_from_place, place_from_in, Delivery}
use Rattle.cueplayer.proofs.Terms.{IsFreshIn, entry, AreInTime, In_accepted, Coming, own}
use Rattle.cueplayer.proofs.Terms.{own_in_time, own_from, KeptOne, kept_of, history, lit_by}
use Rattle.cueplayer.proofs.Terms.{shown_lit, silent_at, fresh_parts, one_light}
use Rattle.wire_world.specs.Delivery.{newest_of, IsInWindow}

-- none of these came less than 2,500 ms before moment t
abbrev pub is_silent : ℕ → List Delivery → Bool
is_silent t ds = list_all (λ d. nat_le (d.moment + 2500) t) ds

-- the entries that sources leave
abbrev pub entry_at : (ℕ → Identity) → Coming → Entry
entry_at who c = entry (who c.0) c.1

-- sources, at most four with CIDs of their own, and what came of their packets
module _ (n : ℕ) (who : ℕ → Identity) (few : n ≤ 4)
    (apart : (i j : ℕ) → i < n → j < n → nat_eq j i ≡ false
    → bytes_eq (who i).cid (who j).cid ≡ false)
    (cs : List Coming) (there : (c : Coming) → In c cs → c.0 < n) where
  abbrev h : List Entry
  h = accepted_packets 4 (map (entry_at who) cs)

  own_entries : (i : ℕ) → i < n → (xs : List Coming) → ((c : Coming) → In c xs → c.0 < n)
      → filter (same_cid (who i).cid) (map (entry_at who) xs) ≡ map (entry (who i)) (own i xs)
  own_entries i l [] a = refl
  own_entries i l (c ∷ xs) a =
      let ih = own_entries i l xs (λ d m. a d (inr m)) in
      by_test (nat_eq c.0 i)
      (λ q. rw (q, eqb-true c.0 i q, nat_list_eq_equiv.refl (who i).cid, ih) refl)
      (λ q. rw (q, apart i c.0 l (a c (inl refl)) q) ih)

  abbrev cids : List (List ℕ)
  cids = map (λ i. (who i).cid) (range_with_len 0 n)

  from_these : All (λ (e : Entry). Contains cids e.cid) (map (entry_at who) cs)
  from_these = All-map (λ (e : Entry). Contains cids e.cid) (entry_at who) cs (λ k d l.
      let i : ℕ = (get_or cs k d).0 in
      let b : i < n = there (get_or cs k d) (in_from_get_or cs k d l) in
      let size = length-map-range_with_len (λ i. (who i).cid) 0 n in (
        i,
        omega (arith, b, size),
        get_or-map-range_with_len (λ i. (who i).cid) 0 n i i _ b (omega arith),
      ))

  -- what is kept of a source is what its own deliveries leave
  follows : (i : ℕ) → i < n → find (same_cid (who i).cid) h
      ≡ find (same_cid (who i).cid) (history (who i) (own i cs))
  follows i l = sources_independent 4 cids (map (entry_at who) cs)
      (omega (arith, few, length-map-range_with_len (λ i. (who i).cid) 0 n)) from_these
      (who i).cid
      ∙ ap (λ es. find (same_cid (who i).cid) (accepted_packets 4 es)) (own_entries i l cs there)

  owned : (e : Entry) → In e h → (j : ℕ) × In j (range_with_len 0 n) × ((who j).cid ≡ e.cid)
  owned e i =
      let m = In_mapped (entry_at who) e cs (In_accepted e (map (entry_at who) cs) i) in
      let j : ℕ = m.0.0 in
      let b : j < n = there m.0 m.1 in
      let size = length-range_with_len 0 n in
      let at = get_or-range_with_len 0 n j j b in (
        j,
        in_from_place j (range_with_len 0 n) (j, omega (arith, b, size), omega (arith, at)),
        ap (λ (x : Entry). x.cid) (sym m.2),
      )

  -- what they sent, and what it means
  module _ (last t : ℕ) (time : last ≤ t) (in_time : AreInTime last (map (λ c. c.1.moment) cs))
      (ps : ℕ → List Packet)
      (at : (c : Coming) → In c cs → slice_get (ps c.0) c.1.k ≡ Some c.1.packet)
      (live : ℕ → Bool) (meant : ℕ → List ℕ)
      (newest : (i k : ℕ) (packet : Packet) → slice_get (ps i) k ≡ Some packet
      → suc k ≡ length (ps i) → (packet.slots ≡ meant i) × (packet.ends ≡ not (live i))) where
    abbrev is_lit : ℕ → Bool
    is_lit i = not (is_silent t (own i cs)) && live i

    abbrev light : ℕ → Light
    light i = record { priority = (who i).priority; slots = meant i }

    module _ (i : ℕ) (within : i < n) (window : IsInWindow (own i cs)) where
      abbrev Kept : Type 0
      Kept = KeptOne (who i) last (own i cs)

      kept : (own i cs ≡ []) ⊎ Kept
      kept = kept_of (who i) last (own i cs) window (own_in_time i last cs in_time)

      abbrev found : Option Entry
      found = find (same_cid (who i).cid) h

      found_none : own i cs ≡ [] → found ≡ None
      found_none e = follows i within ∙ rw e refl

      was_sent : (k : Kept) → slice_get (ps i) k.one.k ≡ Some k.one.packet
      was_sent k = at (i, k.one) (own_from i k.one cs k.came)

      not_silent : IsFreshIn t (ps i) (own i cs) → Kept → is_silent t (own i cs) ≡ false
      not_silent fresh k =
          let f = fresh_parts t _ (own i cs) fresh in
          by_test (is_silent t (own i cs)) (λ q. absurd (
          let s = silent_at t _ k.one q k.came in
          omega (arith, s, f.1, k.facts.after_arrival))) (λ q. q)

      recent : (k : Kept) → nat_lt (t - k.one.moment) 2500 ≡ nat_lt t (k.one.moment + 2500)
      recent k =
          let l : k.one.moment ≤ t = omega (arith, k.facts.past, time) in grind (arith, nat_tests)

      abbrev due : Option Light
      due = if is_lit i then Some (light i) else None

      lit_fresh : IsFreshIn t (ps i) (own i cs) → (k : Kept) → lit_by t found ≡ due
      lit_fresh fresh k =
          let f = fresh_parts t (ps i) (own i cs) fresh in
          let top : k.one.k ≡ newest_of (own i cs) =
          grind (arith, k.facts.newest_or_late, k.facts.past, f.1, time) in
          let m = newest i k.one.k k.one.packet (was_sent k) (omega (arith, f.0, top)) in
          let there : nat_lt (t - k.one.moment) 2500 ≡ true =
          recent k ∙ lt-ltb t (k.one.moment + 2500) (omega (arith, f.1, k.facts.after_arrival)) in
          let loud = not_silent fresh k in
          ap (lit_by t) (follows i within ∙ k.is_kept) ∙ by_test (live i)
          (λ q. rw (there, m.0, m.1, loud, q)) (λ q. rw (there, m.0, m.1, loud, q))

      lit_silent : is_silent t (own i cs) ≡ true → (own i cs ≡ []) ⊎ Kept
          → lit_by t found ≡ due
      lit_silent silent (inl none) = rw silent (ap (lit_by t) (found_none none))
      lit_silent silent (inr k) =
          let gone : nat_lt (t - k.one.moment) 2500 ≡ false =
          recent k ∙ le-ltb t (k.one.moment + 2500)
          (silent_at t (own i cs) k.one silent k.came) in
          rw silent (ap (lit_by t) (follows i within ∙ k.is_kept) ∙ rw gone)

      lit_settled : ((ps i ≡ [] → ⊥)
          → IsFreshIn t (ps i) (own i cs) ⊎ IsTrue (is_silent t (own i cs)))
          → lit_by t found ≡ due
      lit_settled state = elim kept [
        | inl none ↦ lit_silent (rw none) (inl none)
        | inr k ↦
            elim (state (λ none.
            let z : None ≡ Some k.one.packet = rw none at (was_sent k) in cc)) [
              | inl fresh ↦ lit_fresh fresh k
              | inr silent ↦ lit_silent silent (inr k)
            ]
      ]

    -- where each is fresh or silent, those that are lit are what is shown
    pub shown_is : ((i : ℕ) → i < n → IsInWindow (own i cs))
        → ((i : ℕ) → i < n → (ps i ≡ [] → ⊥)
        → IsFreshIn t (ps i) (own i cs) ⊎ IsTrue (is_silent t (own i cs)))
        → (slot : ℕ) → shown_slot h t slot
        ≡ merged_slot (map light (filter is_lit (range_with_len 0 n))) slot
    shown_is window state slot =
        shown_lit t h (λ j. (who j).cid) (range_with_len 0 n) owned is_lit light (λ j m.
        let place = place_from_in j (range_with_len 0 n) m in
        let k : place.0 < n = omega (arith, place.1, length-range_with_len 0 n) in
        let l : j < n = omega (arith, place.2, get_or-range_with_len 0 n place.0 j k) in
        lit_settled j l (window j l) (state j l)) slot

    -- a fresh one is not silent
    pub is_loud : (i : ℕ) → i < n → IsInWindow (own i cs)
        → IsFreshIn t (ps i) (own i cs) → is_silent t (own i cs) ≡ false
    is_loud i within window fresh = elim (kept i within window) [
      | inl none ↦ absurd (subst (IsFreshIn t _) none fresh)
      | inr k ↦ not_silent i within window fresh k
    ]

-- one source alone: what is shown is one of its newest packets, or nothing
module _ (c : Identity) (cs : List Coming) (there : (x : Coming) → In x cs → x.0 < 1)
    (last t : ℕ) (time : last ≤ t) (in_time : AreInTime last (map (λ x. x.1.moment) cs))
    (window : IsInWindow (own 0 cs)) where
  abbrev all : List Entry
  all = accepted_packets 4 (map (entry_at (λ _. c)) cs)

  pub record IsNear : Type 0 where
    pub one : Delivery
    pub came : In one (own 0 cs)
    pub not_far_behind : newest_of (own 0 cs) ≤ one.k + 19
    pub not_ahead : one.k ≤ newest_of (own 0 cs)
    pub recent : t < one.moment + 2500
    pub shows : (slot : ℕ) → shown_slot all t slot ≡ slice_index one.packet.slots slot

  none_apart : (i j : ℕ) → i < 1 → j < 1 → nat_eq j i ≡ false → bytes_eq c.cid c.cid ≡ false
  none_apart i j l m q = absurd (let e : j ≡ i = omega (arith, l, m) in let z = eq-eqb j i e in cc)

  found_is : find (same_cid c.cid) all ≡ find (same_cid c.cid) (history c (own 0 cs))
  found_is = follows 1 (λ _. c) (omega arith) none_apart cs there 0 (omega arith)

  shown_alone : (b : Bool) (l : Light)
      → lit_by t (find (same_cid c.cid) all) ≡ (if b then Some l else None) → (slot : ℕ)
      → shown_slot all t slot ≡ merged_slot (map {A = ℕ} (λ _. l) (filter (λ _. b) (0 ∷ []))) slot
  shown_alone b l lit slot = shown_lit t all (λ _. c.cid) (0 ∷ [])
      (λ e m. let o = owned 1 (λ _. c) (omega arith) none_apart cs there e m in
      (0, inl refl, o.2)) (λ _. b) (λ _. l) (λ j m. lit) slot

  pub near : IsNear ⊎ ((slot : ℕ) → shown_slot all t slot ≡ 0)
  near = elim (kept_of c last (own 0 cs) window (own_in_time 0 last cs in_time)) [
    | inl none ↦
        (let gone : find (same_cid c.cid) all ≡ None = found_is ∙ rw none refl in
        inr (λ slot. shown_alone false (record { priority = 0; slots = [] }) (ap (lit_by t) gone)
        slot))
    | inr k ↦
        (let e : Entry = entry c k.one in
        let b : Bool = is_there t e && not e.ended in
        let shows : (slot : ℕ) → shown_slot all t slot
        ≡ merged_slot (map {A = ℕ} (λ _. light_of e) (filter (λ _. b) (0 ∷ []))) slot =
        shown_alone b (light_of e) (ap (lit_by t) (found_is ∙ k.is_kept)) in
        let l : k.one.moment ≤ t = omega (arith, k.facts.past, time) in
        let recent : nat_lt (t - k.one.moment) 2500 ≡ nat_lt t (k.one.moment + 2500) =
        grind (arith, nat_tests) in
        by_test b (λ q. inl (record {
          one = k.one;
          came = k.came;
          not_far_behind = k.facts.not_far_behind;
          not_ahead = k.facts.not_ahead;
          recent = ltb-true t (k.one.moment + 2500) (sym recent
              ∙ (and_parts (is_there t e) (not e.ended) q).0);
          shows = λ slot. shows slot ∙ rw q (one_light (light_of e) slot);
        })) (λ q. inr (λ slot. shows slot ∙ rw q refl)))
  ]
