-- What is kept of a source depends on its own packets alone, the merge on the members alone, and
-- the live records are those that are there and not ended. What a receiver makes of arrivals whose
-- moments never fall is the history of the packets that are heard.
use Rattle.std.proofs.Common.{◌≡◌, ℕ, ◌<◌, ◌≤◌, Bool, true, refl, ap, arith, sym, subst}
use Rattle.std.proofs.Common.{◌∙◌, List, [], ◌∷◌, length, Option, Some, None, not}
use Rattle.std.proofs.Common.{map, Ok, Err}
use Rattle.std.specs.Prelude.{if◌then◌else◌, filter, find, All, Contains, is_none, IsTrue}
use Rattle.std.specs.Option.{option_or, option_map_or}
use Rattle.std.proofs.lemmas.Bool.{lt-ltb, cond_both, not-true}
use Rattle.std.proofs.lemmas.List.Elements.{All-cons, All-head, All-tail, All-map, All-filter}
use Rattle.std.proofs.lemmas.List.Elements.{All-weaker, filter_passes}
use Rattle.sacn_packet.specs.Reading.{front_packet}
use Rattle.sacn_receiver.specs.Source.{Entry, same_cid, is_there, is_after, newest, records}
use Rattle.sacn_receiver.specs.Source.{while_there, record_of, is_taken, is_accepted, last_moment}
use Rattle.sacn_receiver.specs.Shown.{live}
use Rattle.sacn_receiver.specs.Laws.{accepted_packets, SourcesAreIndependent, MergeIsByMembership}
use Rattle.sacn_receiver.specs.Laws.{LiveAreRecords, LiveAreApart, HeardAreAccepted}
use Rattle.sacn_receiver.specs.Laws.{RecordsAreIndependent, AnswersAreIndependent}
use Rattle.sacn_receiver.specs.declared.answer.Ignored.{Ignored}
use Rattle.sacn_receiver.specs.Taking.{accepted_entry, source_reason, source_refusal, ignore_reason}
use Rattle.sacn_receiver.specs.Taking.{taken_of}
use Rattle.sacn_receiver.specs.Arrivals.{Arrival, heard_all, last_arrival, NeverFall, not_heard}
use Rattle.sacn_receiver.specs.Arrivals.{is_heard, cid_of, is_from, HeardAreFrom, packets_heard}
use Rattle.sacn_receiver.proofs.Members.{by_test, found_in, In_filter, In_filtered, in_from_place}
use Rattle.sacn_receiver.proofs.Members.{place_from_in}
use Rattle.sacn_receiver.proofs.Apart.{own_cid, find_records, records_distinct, in_found}
use Rattle.sacn_receiver.proofs.Apart.{AllIn, IsFrom, distinct_apart, fits, one_of}
use Rattle.sacn_receiver.proofs.Same.{merged_same}
use Rattle.sacn_receiver.proofs.Merging.{live_distinct}
use Rattle.sacn_receiver.proofs.Taking.{in_time}

pub by_membership : MergeIsByMembership
by_membership lights others same s =
    merged_same lights others s
    (λ l i. in_from_place l others ((same l).0 (place_from_in l lights i)))
    (λ l i. in_from_place l lights ((same l).1 (place_from_in l others i)))

pub live_records : LiveAreRecords
live_records h t e = (
  λ c. let j = In_filtered (λ f. not f.ended) e (records h t) (in_from_place e (live h t) c) in (
    sym (find_records h t e.cid) ∙ in_found (records h t) e (records_distinct h t) j.0,
    not-true e.ended j.1,
  ),
  λ r. place_from_in e (live h t) (In_filter (λ f. not f.ended) e (records h t)
      (found_in (same_cid e.cid) e (records h t) (find_records h t e.cid ∙ r.0)).0 (ap not r.1)),
)

pub live_apart : LiveAreApart
live_apart h t = distinct_apart (live h t) (live_distinct h t)

-- what is kept of entries of some CIDs is of these CIDs
newest_in : (cids : List (List ℕ)) (es : List Entry) → AllIn cids es → AllIn cids (newest es)
newest_in cids [] a = a
newest_in cids (e ∷ es) a =
    let older = newest_in cids es (All-tail (IsFrom cids) e es a) in
    All-cons (IsFrom cids) e _ (All-head (IsFrom cids) e es a)
    (All-filter (λ f. not (same_cid e.cid f)) (IsFrom cids) (newest es) older)

pub accepted_in : (room : ℕ) (cids : List (List ℕ)) (es : List Entry) → AllIn cids es
    → AllIn cids (accepted_packets room es)
accepted_in room cids [] a = a
accepted_in room cids (e ∷ es) a =
    let rest = accepted_in room cids es (All-tail (IsFrom cids) e es a) in
    cond_both (is_accepted room (accepted_packets room es) e.moment e.cid e.number) _ _ (AllIn cids)
    (λ _. All-cons (IsFrom cids) e _ (All-head (IsFrom cids) e es a) rest) (λ _. rest)

-- a CID without a record finds room among as many as there are CIDs
pub room_for : (cids : List (List ℕ)) (e : Entry) (t : ℕ) (h : List Entry) → AllIn cids h
    → IsFrom cids e → record_of h t e.cid ≡ None → length (records h t) < length cids
room_for cids e t h a m n =
    let kept = All-filter (is_there t) (IsFrom cids) (newest h) (newest_in cids h a) in
    let more : length (e ∷ records h t) ≤ length cids =
    fits cids (e ∷ records h t) (All-cons (IsFrom cids) e (records h t) m kept)
    (find_records h t e.cid ∙ n, records_distinct h t) in
    omega (arith, more)

-- where there is room, a packet is accepted by the record of its CID alone
abbrev by_number : ℕ → Option Entry → Bool
by_number number o = option_map_or (λ e. is_after e.number number) o true

accepts : (room : ℕ) (cids : List (List ℕ)) (e : Entry) → length cids ≤ room
    → IsFrom cids e → (h : List Entry) → AllIn cids h → is_accepted room h e.moment e.cid e.number
    ≡ by_number e.number (record_of h e.moment e.cid)
accepts room cids e few m h a = go (record_of h e.moment e.cid) refl
  where
    go : (o : Option Entry) → record_of h e.moment e.cid ≡ o
        → is_taken room o (length (records h e.moment)) e.number ≡ by_number e.number o
    go None n = lt-ltb _ room (omega (arith, few, room_for cids e e.moment h a m n))
    go (Some f) n = refl

module _ (room : ℕ) (cids : List (List ℕ)) (c : List ℕ) (few : length cids ≤ room) where
  -- a packet of a source is accepted alike where the same packet of it was accepted last
  independent : (es : List Entry) → AllIn cids es → find (same_cid c) (accepted_packets room es)
      ≡ find (same_cid c) (accepted_packets room (filter (same_cid c) es))
  independent [] a = refl
  independent (e ∷ es) a =
      let own : List Entry = filter (same_cid c) es in
      let g : List Entry = accepted_packets room es in
      let h : List Entry = accepted_packets room own in
      let rest : AllIn cids es = All-tail (IsFrom cids) e es a in
      let ih : find (same_cid c) g ≡ find (same_cid c) h = independent es rest in
      let m : IsFrom cids e = All-head (IsFrom cids) e es a in
      by_test (same_cid c e) (λ q.
      let same = subst (λ d. find (same_cid d) g ≡ find (same_cid d) h) (own_cid c e q) ih in
      let next : is_accepted room g e.moment e.cid e.number
      ≡ is_accepted room h e.moment e.cid e.number =
      accepts room cids e few m g (accepted_in room cids es rest)
      ∙ ap (λ o. by_number e.number (while_there e.moment o)) same
      ∙ sym (accepts room cids e few m h
      (accepted_in room cids own (All-filter (same_cid c) (IsFrom cids) es rest))) in
      rw (q, next) (by_test (is_accepted room h e.moment e.cid e.number) (λ k. simp (k, q))
      (λ k. simp k ih)))
      (λ q. rw q (cond_both (is_accepted room g e.moment e.cid e.number) (e ∷ g) g
      (λ l. find (same_cid c) l ≡ find (same_cid c) h) (λ _. rw q ih) (λ _. ih)))

all_from : (cids : List (List ℕ)) (es : List Entry) → All (λ e. Contains cids e.cid) es
    → AllIn cids es
all_from cids es =
    All-weaker (λ e. Contains cids e.cid) (IsFrom cids) (λ e i. one_of e cids i) es

pub sources_independent : SourcesAreIndependent
sources_independent room cids packets few from cid =
    independent room cids cid few packets (all_from cids packets from)

-- the entry of an arrival's packet, where it is accepted
abbrev pub entry_from : Arrival → Entry
entry_from a = accepted_entry a.moment (front_packet a.datagram)

-- the last accepted packet is not after the next arrival
before : (room universe : ℕ) (a : Arrival) (older : List Arrival) → NeverFall (a ∷ older)
    → last_moment (heard_all room universe older) ≤ a.moment
before room universe a [] n = omega arith
before room universe a (b ∷ older) n =
    let h : List Entry = heard_all room universe older in
    elim (ignore_reason room universe h b.moment b.datagram) as
    (λ o. last_moment (option_map_or (λ _. h) o (entry_from b ∷ h)) ≤ a.moment) [
      | None ↦ n.0
      | Some r ↦ omega (arith, n.0, before room universe b older n.1)
    ]

pub heard_accepted : HeardAreAccepted
heard_accepted room universe [] n = refl
heard_accepted room universe (a ∷ older) n =
    rw (
      in_time room universe (heard_all room universe older) a.moment a.datagram
          (before room universe a older n),
      heard_accepted room universe older n.1,
    )
    (go (not_heard universe a.datagram) (filter (is_heard universe) older))
  where
    go : (o : Option Ignored) (rest : List Arrival)
        → option_map_or (λ _. accepted_packets room (map entry_from rest)) (option_or o
        (source_refusal room (accepted_packets room (map entry_from rest)) a.moment (cid_of a)
        (entry_from a).number)) (entry_from a ∷ accepted_packets room (map entry_from rest))
        ≡ accepted_packets room (map entry_from (if is_none o then a ∷ rest else rest))
    go o rest = grind arith

-- a filter by what a map gives
filter_both : {A B : Type 0} (f : A → B) (p : B → Bool) (q : A → Bool) (xs : List A)
    → map f (filter q (filter (λ x. p (f x)) xs)) ≡ filter p (map f (filter q xs))
filter_both f p q [] = refl
filter_both f p q (x ∷ xs) = let ih = filter_both f p q xs in grind (arith, ih)

-- of some of the arrivals too the moments never fall
some_never_fall : (p : Arrival → Bool) (older : List Arrival) (m : ℕ) → last_arrival older ≤ m
    → NeverFall older → (last_arrival (filter p older) ≤ m) × NeverFall (filter p older)
some_never_fall p [] m l n = (l, tt)
some_never_fall p (a ∷ older) m l n =
    cond_both (p a) (a ∷ filter p older) (filter p older) (λ l. (last_arrival l ≤ m) × NeverFall l)
    (λ _. (l, some_never_fall p older a.moment n.0 n.1))
    (λ _. some_never_fall p older m (omega (arith, l, n.0)) n.1)

-- an arrival comes from one of these sources, if it is heard
abbrev IsOf : List (List ℕ) → ℕ → Arrival → Type 0
IsOf cids universe a = IsTrue (is_heard universe a) → Contains cids (cid_of a)

-- they come from the sources of the arrivals
packets_in : (cids : List (List ℕ)) (universe : ℕ) (arrivals : List Arrival)
    → HeardAreFrom cids universe arrivals → AllIn cids (packets_heard universe arrivals)
packets_in cids universe arrivals from =
    let p : Arrival → Bool = is_heard universe in
    all_from cids (packets_heard universe arrivals) (All-map (λ e. Contains cids e.cid) entry_from
    (filter p arrivals) (λ k d l. All-filter p (IsOf cids universe) arrivals from k d l
    (filter_passes p arrivals k d l)))

pub records_independent : RecordsAreIndependent
records_independent room universe cids arrivals few from n cid =
    ap (find (same_cid cid)) (heard_accepted room universe arrivals n)
    ∙ independent room cids cid few (packets_heard universe arrivals)
    (packets_in cids universe arrivals from) ∙ sym (ap (find (same_cid cid))
    (heard_accepted room universe (filter (is_from cid) arrivals)
    (some_never_fall (is_from cid) arrivals (last_arrival arrivals) (omega arith) n).1
    ∙ ap (accepted_packets room)
    (filter_both entry_from (same_cid cid) (is_heard universe) arrivals)))

pub answers_independent : AnswersAreIndependent
answers_independent room universe cids a older few from n =
    ap (λ o. option_map_or Err o (Ok (taken_of (front_packet a.datagram))))
    (by_record older rest_from n ∙ ap (λ o. answered (while_there a.moment o))
    (records_independent room universe cids older few rest_from n.1 (cid_of a))
    ∙ sym (by_record (filter (is_from (cid_of a)) older)
    (All-filter (is_from (cid_of a)) (IsOf cids universe) older rest_from)
    (some_never_fall (is_from (cid_of a)) older a.moment n.0 n.1)))
  where
    rest_from : HeardAreFrom cids universe older
    rest_from = All-tail (IsOf cids universe) a older from

    only_if_none : (o x y : Option Ignored) → (is_none o ≡ true → x ≡ y)
        → option_or o x ≡ option_or o y
    only_if_none o x y h = grind (arith, h)

    answered : Option Entry → Option Ignored
    answered o = option_or (not_heard universe a.datagram)
        (if by_number (entry_from a).number o then None else Some (source_reason o))

    -- among no more sources than there is room for, the record of the CID decides
    by_record : (some : List Arrival) → HeardAreFrom cids universe some → NeverFall (a ∷ some)
        → ignore_reason room universe (heard_all room universe some) a.moment a.datagram
        ≡ answered (record_of (heard_all room universe some) a.moment (cid_of a))
    by_record some from_some falls =
        let h : List Entry = heard_all room universe some in
        let all : AllIn cids h = rw (heard_accepted room universe some falls.1)
        (accepted_in room cids (packets_heard universe some)
        (packets_in cids universe some from_some)) in
        in_time room universe h a.moment a.datagram (before room universe a some falls)
        ∙ only_if_none (not_heard universe a.datagram) _ _ (λ q.
        ap (λ b. if b then None else Some (source_reason (record_of h a.moment (cid_of a))))
        (accepts room cids (entry_from a) few
        (All-head (IsFrom cids) (entry_from a) _
        (rw q at (packets_in cids universe (a ∷ older) from))) h all))
