-- The packets that a link and the shelves of its universes keep are those of its streams.
use Rattle.std.proofs.Common.{◌≡◌, ℕ, zero, suc, ◌+◌, ◌-◌, ◌≤◌, ap, sym, ◌∙◌, refl, List, [], ◌∷◌}
use Rattle.std.proofs.Common.{◌++◌, length, length-append, arith, take, ◌<◌, subst, true, Option}
use Rattle.std.proofs.Common.{Some, None, Bool, false, map, get_or, append-nil, Result, Ok, Err}
use Rattle.std.proofs.Common.{slice_get, is_some, if◌then◌else◌, nat_eq, IfSome, find, ◌==◌}
use Rattle.std.proofs.Common.{slice_set, IfOk, OnErr, OnOk, MatchResult}
use Rattle.std.specs.Option.{option_to_list}
use Rattle.std.proofs.lemmas.List.{append_assoc, length-take, take_all, map-append}
use Rattle.std.proofs.lemmas.List.Elements.{filter-append}
use Rattle.std.proofs.lemmas.List.Folds.{list_any_none, find_at, find-set, find_past, find-append}
use Rattle.std.specs.List.{list_any, AllPairs, position_or_len}
use Rattle.std.proofs.lemmas.Bool.{cond_both, eqb-true, ne_eqb, eq-eqb}
use Rattle.std.proofs.lemmas.List.Kept.{AllPairs-from_increasing}
use Rattle.devices.specs.Send.{Send}
use Rattle.desk_core.proofs.Universes.{numbers_rise}
use Rattle.desk_core.specs.Played.{tick_at}
use Rattle.sacn_source.specs.declared.offered.Offered.{Offered}
use Rattle.sacn_receiver.proofs.Members.{by_test}
use Rattle.console.specs.Offering.{AreOffered, OffersDues, none, quiet, sent}
use Rattle.console.specs.Streams.{Due, due_at, dues_at}
use Rattle.wire_world.specs.Happened.{packets_of}
use Rattle.wire_world.specs.Replies.{due_answer}
use Rattle.wire_world.specs.declared.row.Row.{Row}
use Rattle.wire_world.specs.Sends.{row_send, sent_to, packet_run, SendStore, sends_of}
use Rattle.std.proofs.lemmas.List.Quantifiers.{position-Some}
use Rattle.std.proofs.lemmas.Option.{slice_get_past}
use Rattle.desk_core.specs.declared.answer.Ticked.{Ticked}
use Rattle.console.specs.Stands.{StandsFor}
use Rattle.console.proofs.Streams as console
use Rattle.wire_world.proofs.Terms.{option_map, option_map_or, option_or, IsRest, gone_of}
use Rattle.wire_world.proofs.Terms.{shelf_packets, position, Act, outcome, Identity, Packet}
use Rattle.wire_world.proofs.Terms.{HoldsFull, Production, universes_of, packet_bytes, bytes_of}
use Rattle.wire_world.proofs.Terms.{stream, plays, common_steps, slice_get-get_or, Shelf, Start}
use Rattle.wire_world.proofs.Terms.{Refused, Stage, StageStands, LinkTells}
use Rattle.wire_world.proofs.Wire.{bytes_are}

-- ---- all packets but the first ones

-- so many as are kept and gone
rest_length : (gone : ℕ) (kept all : List (List ℕ)) → IsRest gone kept all
    → length all ≡ gone + length kept
rest_length gone kept all r = omega (arith, ap length r.parts, length-append r.before kept, r.count)

-- with one more behind
pub rest_kept : (last gone : ℕ) (kept all : List (List ℕ)) (packet : List ℕ)
    → gone + length kept ≤ last → IsRest gone kept (take (last + 1) all)
    → IsRest gone (kept ++ packet ∷ []) (take (last + 1) (all ++ packet ∷ []))
rest_kept last gone kept all packet l r =
    let few : length all ≤ last =
    omega (arith, length-take (last + 1) all, rest_length gone kept _ r, l) in
    let whole : take (last + 1) all ≡ all = take_all (last + 1) all (omega (arith, few)) in
    let more = take_all (last + 1) (all ++ packet ∷ [])
    (omega (arith, length-append all (packet ∷ []), few)) in record {
      before = r.before;
      parts = more ∙ ap (λ l. l ++ packet ∷ []) (sym whole ∙ r.parts)
          ∙ append_assoc r.before kept (packet ∷ []);
      count = r.count;
    }

-- with its first one gone
pub rest_popped : {A : Type 0} (of : A → List ℕ) (gone : ℕ) (first : Option A)
    (was kept all : List (List ℕ)) → was ≡ option_to_list (option_map of first) ++ kept
    → is_some first ≡ true → IsRest gone was all → IsRest (gone + 1) kept all
rest_popped of gone None was kept all e some r = cc
rest_popped of gone (Some packet) was kept all e some r = record {
  before = r.before ++ of packet ∷ [];
  parts = r.parts ∙ rw (e, append_assoc);
  count = omega (arith, length-append r.before (of packet ∷ []), r.count);
}

behind : {A : Type 0} (xs ys : List A) (k : ℕ) → length xs ≤ k
    → slice_get ys (k - length xs) ≡ slice_get (xs ++ ys) k
behind [] ys k l = grind arith
behind (x ∷ xs) ys zero l = absurd (omega (arith, l))
behind (x ∷ xs) ys (suc k) l = let e : suc k - suc (length xs) ≡ k - length xs = omega arith in
    rw e (behind xs ys k (omega (arith, l)))

-- packet k of all
rest_at : (gone : ℕ) (kept all : List (List ℕ)) (k : ℕ) → IsRest gone kept all → gone ≤ k
    → slice_get kept (k - gone) ≡ slice_get all k
rest_at gone kept all k r l =
    rw (← r.count, r.parts) (behind r.before kept k (omega (arith, l, r.count)))

-- and where it is among the first of all
get_taken : {A : Type 0} (xs : List A) (n k : ℕ) → k < n → slice_get (take n xs) k ≡ slice_get xs k
get_taken xs zero k l = absurd (omega (arith, l))
get_taken [] (suc n) k l = refl
get_taken (x ∷ xs) (suc n) zero l = refl
get_taken (x ∷ xs) (suc n) (suc k) l = get_taken xs n k (omega (arith, l))

-- ---- what a link keeps of a universe is its stream, packet by packet

-- packet k of a numbered stream
pub numbered_at : (source : Identity) (u j n : ℕ) (ps : List Packet) (k : ℕ) → n ≡ j + k
    → slice_get (packet_run source u j ps) k ≡ option_map (packet_bytes source u n) (slice_get ps k)
numbered_at source u j n [] k e = refl
numbered_at source u j n (p ∷ ps) zero e = grind arith
numbered_at source u j n (p ∷ ps) (suc k) e = numbered_at source u (j + 1) n ps k (omega arith)

numbered_more : (source : Identity) (u j n : ℕ) (ps qs : List Packet) → n ≡ j + length ps
    → packet_run source u j ps ++ packet_run source u n qs ≡ packet_run source u j (ps ++ qs)
numbered_more source u j n [] qs e = grind arith
numbered_more source u j n (p ∷ ps) qs e = rw (numbered_more source u (j + 1) n ps qs (omega arith))

-- ---- the sends of a tick

pub sent_more : (u : ℕ) (xs ys : List Send) → sent_to u (xs ++ ys) ≡ sent_to u xs ++ sent_to u ys
sent_more u xs ys =
    ap (map (λ (s : Send). s.bytes)) (filter-append (λ (s : Send). nat_eq s.universe u) xs ys)
    ∙ map-append (λ (s : Send). s.bytes) _ _

module _ (p : Production) (h : List Act) (m u : ℕ) where
  -- the bytes of a packet at its place of a stream
  abbrev bytes : ℕ → Option Packet → List (List ℕ)
  bytes n packet = packet_run p.source n (due_at p h m n).place (option_to_list packet)

  abbrev due : ℕ → List (List ℕ)
  due n = bytes n (due_at p h m n).packet

  -- universes rise, so none after this one is it again
  none_again : (n : ℕ) (ns : List ℕ) (xs : List Send) → AllPairs (λ x y. x < y) (n ∷ ns)
      → nat_eq n u ≡ true → sent_to u xs ≡ (if list_any (λ n. nat_eq n u) ns then due u else [])
      → sent_to u xs ≡ []
  none_again n ns xs rise q ih =
      ih ∙ ap (λ b. if b then due u else []) (list_any_none (λ n. nat_eq n u) ns (λ k d l.
      let lt : n < get_or ns k d = rise 0 (suc k) d (omega arith) (omega (arith, l)) in
      ne_eqb _ u (λ s. omega (arith, lt, s, eqb-true n u q))))

  -- the sends to a universe are what is due on it
  pub sent_due : (ns : List ℕ) {xs : List Send} {pairs : List (ℕ × Offered)}
      → AllPairs (λ x y. x < y) ns → AreOffered p.source (map (due_at p h m) ns) xs pairs
      → sent_to u xs ≡ (if list_any (λ n. nat_eq n u) ns then due u else [])
  sent_due [] rise none = refl
  sent_due (n ∷ ns) rise (quiet d ds xs rest e o) =
      let ih = sent_due ns (λ i j d a b. rise (suc i) (suc j) d (omega arith) (omega arith)) o in
      by_test (nat_eq n u) (λ q. rw (q, none_again n ns xs rise q ih, ← eqb-true n u q, e))
      (λ q. rw q ih)
  sent_due (n ∷ ns) rise (sent d packet x ds xs rest c o) =
      let ih = sent_due ns (λ i j d a b. rise (suc i) (suc j) d (omega arith) (omega arith)) o in
      let is = bytes_are p.source n (due_at p h m n).place packet x.bytes
      (subst (λ o. IfSome o HoldsFull) c.packet_is (console.due_full p n h m)) c.bytes_are in
      by_test (nat_eq n u) (λ q. rw (c.universe_is, q, none_again n ns xs rise q ih)
      (rw (← eqb-true n u q, c.packet_is, is))) (λ q. rw (c.universe_is, q) ih)

-- so with those of a tick behind, the packets of a universe are its longer stream
pub stream_ticked : (p : Production) (h : List Act) (m : ℕ) (sends : List Send)
    (pairs : List (ℕ × Offered)) → OffersDues p.source (dues_at p h m) pairs [] sends → (u : ℕ)
    → packet_run p.source u 0 (packets_of p h u) ++ sent_to u sends
    ≡ packet_run p.source u 0 (packets_of p (tick_at m ∷ h) u)
stream_ticked p h m sends pairs o u =
    let rise = AllPairs-from_increasing (universes_of p) (numbers_rise p.show.patch p.base) in
    rw (o.after_is, sent_due p h m u (universes_of p) rise o.are_offered) (by_test (plays p u)
    (λ q. rw q (numbered_more p.source u 0 _ (stream p u h) _ (omega arith)
    ∙ ap (packet_run p.source u 0) (sym (console.stream_ticked p u h m)))) (λ q. rw q))

-- no send of a link fails, so the answers are the numbers
answers_due : {source : Identity} {ds : List Due} {xs : List Send} {pairs : List (ℕ × Offered)}
    → (rows : List Row) → xs ≡ map row_send rows → AreOffered source ds xs pairs
    → pairs ≡ map due_answer ds
answers_due rows all none = refl
answers_due rows all (quiet d ds xs rest e h) = rw (e, answers_due rows all h) refl
answers_due [] all (sent d p x ds xs rest c h) = cc
answers_due (r ∷ rows) all (sent d p x ds xs rest c h) =
    let one : x ≡ row_send r = cc in let more : xs ≡ map row_send rows = cc in
    rw (one, c.packet_is, answers_due rows more h) refl

-- and its answers are the numbers of what is due
answers_ticked : (p : Production) (h : List Act) (m : ℕ) (rows : List Row)
    (pairs : List (ℕ × Offered)) → OffersDues p.source (dues_at p h m) pairs [] (map row_send rows)
    → pairs ≡ map due_answer (dues_at p h m)
answers_ticked p h m rows pairs o = answers_due rows (sym o.after_is) o.are_offered

-- before the first tick there is none
none_at_first : (p : Production) (u n : ℕ)
    → take n (packet_run p.source u 0 (packets_of p [] u)) ≡ []
none_at_first p u n = let none : take n [] ≡ [] = take_all n [] (omega arith) in
    cond_both (plays p u) _ _ (λ ps. take n (packet_run p.source u 0 ps) ≡ []) (λ _. none)
    (λ _. none)

pub first_rest : (p : Production) (u n : ℕ)
    → IsRest 0 [] (take n (packet_run p.source u 0 (packets_of p [] u)))
first_rest p u n = record { before = []; parts = none_at_first p u n; count = refl }

pub first_gone : (p : Production) (u n gone : ℕ) (kept : List (List ℕ))
    → IsRest gone kept (take n (packet_run p.source u 0 (packets_of p [] u))) → gone ≡ 0
first_gone p u n gone kept rest =
    omega (arith, rest_length gone kept _ rest, ap length (none_at_first p u n))

-- packet k is that of the stream
pub datagram_is : (p : Production) (h : List Act) (u k last gone : ℕ) (kept : List (List ℕ))
    → IsRest gone kept (take (last + 1) (packet_run p.source u 0 (packets_of p h u))) → gone ≤ k
    → k ≤ last → slice_get kept (k - gone) ≡ bytes_of p h u k
datagram_is p h u k last gone kept rest l m =
    rest_at gone kept (take (last + 1) (packet_run p.source u 0 (packets_of p h u))) k rest l
    ∙ get_taken (packet_run p.source u 0 (packets_of p h u)) (last + 1) k (omega (arith, m))
    ∙ numbered_at p.source u 0 k (packets_of p h u) k (omega arith)

-- ---- packets on the shelves of their universes

-- ---- the shelf of a universe

abbrev pub shelf_of : ℕ → List Shelf → Option Shelf
shelf_of u shelves = find (λ (s : Shelf). s.universe == u) shelves

abbrev pub gone : Option Shelf → ℕ
gone shelf = option_map_or (λ s. s.gone) shelf 0

abbrev pub kept : Option Shelf → List (List ℕ)
kept shelf = option_map_or (λ s. s.packets) shelf []

-- a universe has a new shelf in place of what it had, and the others have theirs
pub record IsPut (u : ℕ) (was : Option Shelf) (new : Shelf) (shelves after : List Shelf)
    : Type 0 where
  pub own : shelf_of u shelves ≡ was
  pub own_after : shelf_of u after ≡ Some new
  pub others : (v : ℕ) → nat_eq u v ≡ false → shelf_of v after ≡ shelf_of v shelves

-- in place of its shelf
pub set_put : (shelves : List Shelf) (u i : ℕ) (was d new : Shelf)
    → position (λ (s : Shelf). s.universe == u) shelves ≡ Some i → was ≡ get_or shelves i d
    → new.universe ≡ was.universe → IsPut u (Some was) new shelves (slice_set shelves i new)
set_put shelves u i was d new found is name =
    let here = position-Some (λ (s : Shelf). s.universe == u) shelves i d found in
    let at : i ≡ position_or_len (λ (s : Shelf). s.universe == u) shelves =
    grind (arith, common_steps) in
    let named : nat_eq new.universe u ≡ true = rw (name, is) here.1 in
    record {
      own = find_at (λ (s : Shelf). s.universe == u) shelves ∙ ap (slice_get shelves) (sym at)
          ∙ slice_get-get_or shelves i d here.0 ∙ ap Some (sym is);
      own_after = find-set (λ (s : Shelf). s.universe == u) shelves i new at here.0 named;
      others = λ v q. find_past (λ (s : Shelf). s.universe == v) shelves i new d
          (rw (eqb-true _ u here.1) q) (rw (eqb-true _ u named) q);
    }

-- where it has none yet
pub push_put : (shelves : List Shelf) (u : ℕ) (new : Shelf)
    → position (λ (s : Shelf). s.universe == u) shelves ≡ None → new.universe ≡ u
    → IsPut u None new shelves (shelves ++ new ∷ [])
push_put shelves u new missed name =
    let past : length shelves ≤ position_or_len (λ (s : Shelf). s.universe == u) shelves =
    grind (arith, common_steps) in
    let own : shelf_of u shelves ≡ None = find_at (λ (s : Shelf). s.universe == u) shelves
    ∙ slice_get_past shelves _ past in
    record {
      own = own;
      own_after = find-append (λ (s : Shelf). s.universe == u) shelves (new ∷ [])
          ∙ rw (own, name, eq-eqb u u refl) refl;
      others = λ v q. find-append (λ (s : Shelf). s.universe == v) shelves (new ∷ [])
          ∙ rw (name, q) (or_none (shelf_of v shelves));
    }
  where
    or_none : (o : Option Shelf) → option_or o None ≡ o
    or_none None = refl
    or_none (Some s) = refl

module _ {u : ℕ} {was : Option Shelf} {new : Shelf} {shelves after : List Shelf}
    (put : IsPut u was new shelves after) where
  -- what holds of that universe, and of any shelf that is as it was, holds of each
  each : (P : ℕ → Bool → Option Shelf → Option Shelf → Type 0) → P u true was (Some new)
      → ((v : ℕ) (o : Option Shelf) → P v false o o) → (v : ℕ)
      → P v (nat_eq u v) (shelf_of v shelves) (shelf_of v after)
  each P own other v = by_test (nat_eq u v)
      (λ q. rw (q, ← eqb-true u v q, put.own, put.own_after) own)
      (λ q. rw (q, put.others v q) (other v _))

  -- as many are gone as were
  pub gone_same : new.gone ≡ gone was → (v : ℕ) → gone_of after v ≡ gone_of shelves v
  gone_same same = each (λ v b o n. gone n ≡ gone o) same (λ v o. refl)

  -- what its shelf keeps is the rest of others
  pub rest_changed : (v : ℕ) (xs : List (List ℕ)) (ys : Bool → List (List ℕ)) → ys false ≡ xs
      → (IsRest (gone was) (kept was) xs → IsRest new.gone new.packets (ys true))
      → IsRest (gone_of shelves v) (shelf_packets shelves v) xs
      → IsRest (gone_of after v) (shelf_packets after v) (ys (nat_eq u v))
  rest_changed v xs ys same rests =
      each (λ v b o n. IsRest (gone o) (kept o) xs → IsRest (gone n) (kept n) (ys b)) rests
      (λ v o r. rw same r) v

  -- packets that are let go
  pub gone_released : (low : ℕ) → ((k : ℕ) → gone was ≤ k → low ≤ k → new.gone ≤ k)
      → (v k : ℕ) → gone_of shelves v ≤ k → (u ≡ v → low ≤ k) → gone_of after v ≤ k
  gone_released low less v k = each (λ v b o n. gone o ≤ k → (u ≡ v → low ≤ k) → gone n ≤ k)
      (λ l h. less k l (h refl)) (λ v o l h. l) v

-- one row more of those that are kept
pub sent_row : (u : ℕ) (rows : List Row) (row : Row) (kept : List (List ℕ))
    → (if nat_eq row.universe u then (kept ++ sent_to u (map row_send rows)) ++ row.bytes.items ∷ []
    else kept ++ sent_to u (map row_send rows))
    ≡ kept ++ sent_to u (map row_send (rows ++ row ∷ []))
sent_row u rows row kept = let more = map-append row_send rows (row ∷ []) in
    rw (more, sent_more u (map row_send rows) (row_send row ∷ [])) (by_test (nat_eq row.universe u)
    (λ q. rw q (append_assoc kept _ _)) (λ q. rw (q, append-nil)))

-- ---- a tick of a console with its link

-- the answer, from its parts
pub answer_is : (r : Result (Ticked × List (ℕ × Offered)) Refused) (o : Option Refused)
    (t : Ticked) (ps : List (ℕ × Offered))
    → MatchResult r (λ a. (o ≡ None) × (a.0 ≡ t)) (λ x. o ≡ Some x) → IfOk r (λ a. a.1 ≡ ps)
    → r ≡ outcome o (t, ps)
answer_is (Ok a) o t ps m f = rw m.0 (λ i. Ok (m.1 i, f i))
answer_is (Err x) o t ps m f = rw m refl

-- what a tick leaves of a console, whose packets are then moved to the shelves
module _ {F : Type 0} (sf : F → List Start → Type 0) (old new : Stage F) (m : ℕ) (kept : SendStore)
    (told : kept.full ≡ false → old.link.full ≡ false)
    (tells : new.link.full ≡ false → kept.full ≡ false)
    (last : new.last ≡ old.last) (emptied : new.link.rows ≡ [])
    (rest : new.link.full ≡ false → (u : ℕ) (all : List (List ℕ))
    → IsRest (gone_of old.shelves.items u) (shelf_packets old.shelves.items u)
    (take (old.last + 1) all)
    → IsRest (gone_of new.shelves.items u) (shelf_packets new.shelves.items u)
    (take (old.last + 1) (all ++ sent_to u (sends_of kept)))) where
  pub leaves : (r : Result (Ticked × List (ℕ × Offered)) Refused)
      → IfOk r (λ a. (p : Production) (h : List Act) → StandsFor sf p old.console h
      → kept.full ≡ false
      → OffersDues p.source (dues_at p h m) a.1 (sends_of old.link) (sends_of kept))
      → OnOk r ((p : Production) (h : List Act) → StandsFor sf p old.console h
      → StandsFor sf p new.console (tick_at m ∷ h)) → OnErr r (new.console ≡ old.console)
      → OnErr r (kept.full ≡ false → sends_of kept ≡ sends_of old.link)
      → ((p : Production) (h : List Act) → StageStands sf old p h → LinkTells new
      → IfOk r (λ a. a.1 ≡ map due_answer (dues_at p h m)))
      × OnOk r ((p : Production) (h : List Act) → StageStands sf old p h
      → StageStands sf new p (tick_at m ∷ h))
      × OnErr r ((p : Production) (h : List Act) → StageStands sf old p h → StageStands sf new p h)
  leaves (Ok a) offered stands same silent =
      let offers =
      λ (p : Production) (h : List Act) (s : StageStands sf old p h) (t : LinkTells new).
      rw s.link_empty at (offered p h s.console_stands (tells t)) in (
        λ p h s t. answers_ticked p h m kept.rows a.1 (offers p h s t),
        λ p h s. record {
          console_stands = stands p h s.console_stands;
          link_empty = emptied;
          packets_kept = λ t u. rw (last, ← stream_ticked p h m _ a.1 (offers p h s t) u)
              (rest t u _ (s.packets_kept (told (tells t)) u));
        },
        tt,
      )
  leaves (Err e) offered stands same silent = (
    λ p h s t. tt,
    tt,
    λ p h s. record {
      console_stands = rw same s.console_stands;
      link_empty = emptied;
      packets_kept = λ t u. rw last (rw (silent (tells t), s.link_empty, append-nil)
          at (rest t u _ (s.packets_kept (told (tells t)) u)));
    },
  )
