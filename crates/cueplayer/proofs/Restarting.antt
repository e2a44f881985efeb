-- Plays that go on behind plays, and what a process that broke off did not come to.
use Rattle.cueplayer.proofs.Terms.{◌≡◌, ◌≤◌, ◌<◌, ℕ, suc, zero, true, refl, ap, sym, ◌∙◌, arith}
use Rattle.cueplayer.proofs.Terms.{inl, inr, List, [], ◌∷◌, ◌++◌, length, append-nil}
use Rattle.cueplayer.proofs.Terms.{append_assoc, Option, Some, None, map, drop, take-append-drop}
use Rattle.cueplayer.proofs.Terms.{subst, nat_eq, IfSome, AllPairs, list_any, option_to_list}
use Rattle.cueplayer.proofs.Terms.{eq-eqb, nat_tests, drop-map, get_or-drop, length-drop}
use Rattle.cueplayer.proofs.Terms.{All-contains, AllPairs-from_increasing, Send, is_universe}
use Rattle.cueplayer.proofs.Terms.{Refused, Act, refusal, numbers_in, numbers_rise, Identity}
use Rattle.cueplayer.proofs.Terms.{Packet, Offered, Quiet, answer_of, HoldsFull, In, by_test}
use Rattle.cueplayer.proofs.Terms.{AreOffered, none, quiet, sent, Due, Production, due_at}
use Rattle.cueplayer.proofs.Terms.{dues_at, universes_of, Call, Order, Tick, Reading, At, Blank}
use Rattle.cueplayer.proofs.Terms.{Malformed, act_of, reading_of, history_joined, CarriedLine}
use Rattle.cueplayer.proofs.Terms.{IsRun, IsRunFrom, dues_after, dues_by, history_from}
use Rattle.cueplayer.proofs.Terms.{history_of, lines_of_run, sends_of_run, packet_bytes}
use Rattle.cueplayer.proofs.Terms.{packet_run, IsConsole, plays, sent_due, is_data, played_in}
use Rattle.cueplayer.proofs.Terms.{IsPlay, play_history, AreFew, BreaksArePlays, PlaysGoOn}
use Rattle.cueplayer.proofs.Terms.{play_on}
use Rattle.console.proofs.Streams as console

-- ---- a run behind a play

-- two runs, the second behind the first, are one
record IsOne (p : Production) (first later : List CarriedLine) : Type 0 where
  is_run : IsRun p (later ++ first)
  lines_are : lines_of_run (later ++ first) ≡ lines_of_run later ++ lines_of_run first
  sends_are : sends_of_run (later ++ first) ≡ sends_of_run first ++ sends_of_run later

one_run : (p : Production) (first later : List CarriedLine) → IsRun p first
    → IsRunFrom p (history_of p.show (lines_of_run first)) later → IsOne p first later
one_run p first [] is behind = record {
  is_run = is;
  lines_are = refl;
  sends_are = sym (append-nil (sends_of_run first));
}
one_run p first (carried ∷ later) is behind =
    let one = one_run p first later is behind.1 in
    record {
      is_run = (
        subst (λ h. AreOffered p.source (dues_after p h (reading_of carried.line)) carried.sends
            carried.offers)
            (sym (history_joined p.show (lines_of_run later) (lines_of_run first))
            ∙ ap (history_of p.show) (sym one.lines_are)) behind.0,
        one.is_run,
      );
      lines_are = ap (λ lines. carried.line ∷ lines) one.lines_are;
      sends_are = ap (λ sends. sends ++ carried.sends) one.sends_are
          ∙ append_assoc (sends_of_run first) (sends_of_run later) carried.sends;
    }

pub plays_go_on : PlaysGoOn
plays_go_on play run is_play behind =
    let p = play.production in
    let one = one_run p is_play.run run is_play.is_run
    (rw (← is_play.lines_are) at behind) in
    record {
      run = run ++ is_play.run;
      lines_are = one.lines_are ∙ ap (λ lines. lines_of_run run ++ lines) is_play.lines_are;
      is_run = one.is_run;
      offered_are = ap (λ sends. sends ++ sends_of_run run) is_play.offered_are ∙ sym one.sends_are;
    }

-- ---- what was not come to

-- all of what is due can be offered; each send fails
record CanBeOffered (source : Identity) (dues : List Due) : Type 0 where
  sends : List Send
  offers : List (ℕ × Offered)
  are_offered : AreOffered source dues sends offers

offer_none : {source : Identity} → CanBeOffered source []
offer_none = record { sends = []; offers = []; are_offered = none }

both_offered : {source : Identity} {first rest : List Due} {sends others : List Send}
    {offers pairs : List (ℕ × Offered)} → AreOffered source first sends offers
    → AreOffered source rest others pairs
    → AreOffered source (first ++ rest) (sends ++ others) (offers ++ pairs)
both_offered none later = later
both_offered (quiet due dues sends pairs is o) later =
    quiet due _ _ _ is (both_offered o later)
both_offered (sent due packet send dues sends pairs carries o) later =
    sent due packet send _ _ _ carries (both_offered o later)

module _ (p : Production) (is : IsConsole p) (h : List Act) (m : ℕ) where
  in_any : (n : ℕ) (ns : List ℕ) → In n ns → list_any (λ k. nat_eq k n) ns ≡ true
  in_any n [] there = absurd there
  in_any n (k ∷ ns) (inl same) = rw (eq-eqb k n (sym same)) refl
  in_any n (k ∷ ns) (inr there) = by_test (nat_eq k n) (λ q. rw q refl)
      (λ q. rw q (in_any n ns there))

  module _ (n : ℕ) (there : In n (universes_of p)) where
    played : plays p n ≡ true
    played = in_any n (universes_of p) there

    number : is_universe n ≡ true
    number = All-contains (λ k. is_universe k ≡ true) (universes_of p) n
        (numbers_in p.show.patch p.base is.base_in) (played_in p n played)

  offer_one : (n : ℕ) → In n (universes_of p) → (packet : Option Packet)
      → (due_at p h m n).packet ≡ packet → (dues : List Due) → CanBeOffered p.source dues
      → CanBeOffered p.source (due_at p h m n ∷ dues)
  offer_one n there None due_is dues rest = record {
    sends = rest.sends;
    offers = (n, Quiet) ∷ rest.offers;
    are_offered = quiet (due_at p h m n) dues _ _ due_is rest.are_offered;
  }
  offer_one n there (Some packet) due_is dues rest =
      let due = due_at p h m n in
      let send : Send = record {
        universe = n;
        bytes = packet_bytes p.source n due.place packet;
        failed = true;
      } in
      let is_one = number n there in
      record {
        sends = send ∷ rest.sends;
        offers = (n, answer_of true due.place) ∷ rest.offers;
        are_offered = sent due packet send dues _ _ (record {
          packet_is = due_is;
          universe_is = refl;
          bytes_are = is_data p.source n due.place packet (record {
            who = is.source_in n (played n there);
            size = subst (λ o. IfSome o HoldsFull) due_is (console.due_full p n h m);
            low = grind (arith, nat_tests, is_one);
            high = grind (arith, nat_tests, is_one);
          });
        }) rest.are_offered;
      }

  offer_all : (ns : List ℕ) → ((n : ℕ) → In n ns → In n (universes_of p))
      → CanBeOffered p.source (map (due_at p h m) ns)
  offer_all [] there = offer_none
  offer_all (n ∷ ns) there = offer_one n (there n (inl refl)) (due_at p h m n).packet refl
      (map (due_at p h m) ns) (offer_all ns (λ k i. there k (inr i)))

-- ---- what was due still at a line

in_drop : (k : ℕ) (xs : List ℕ) (n : ℕ) → In n (drop k xs) → In n xs
in_drop zero xs n i = i
in_drop (suc k) [] n i = i
in_drop (suc k) (x ∷ xs) n i = inr (in_drop k xs n i)

rise_dropped : (k : ℕ) (us : List ℕ) → AllPairs (λ x y. x < y) us
    → AllPairs (λ x y. x < y) (drop k us)
rise_dropped k us rise i j d before within =
    let l = length-drop k us in
    rw (get_or-drop k us i d, get_or-drop k us j d)
    (rise _ _ d (omega (arith, l, before, within)) (omega (arith, l, within)))

one_at_most : (source : Identity) (u k : ℕ) (o : Option Packet)
    → length (packet_run source u k (option_to_list o)) ≤ 1
one_at_most source u k None = omega arith
one_at_most source u k (Some packet) = omega arith

-- the rest of what is due can be offered, at most one send for each universe
record Rest (p : Production) (dues : List Due) (count : ℕ) : Type 0 where
  sends : List Send
  offers : List (ℕ × Offered)
  are_offered : AreOffered p.source (drop count dues) sends offers
  few : AreFew sends

rest_none : (p : Production) (count : ℕ) → Rest p [] count
rest_none p zero =
    record { sends = []; offers = []; are_offered = none; few = λ u. omega arith }
rest_none p (suc count) =
    record { sends = []; offers = []; are_offered = none; few = λ u. omega arith }

rest_ticked : (p : Production) (h : List Act) (m count : ℕ) → IsConsole p
    → Rest p (dues_at p h m) count
rest_ticked p h m count is =
    let us = universes_of p in
    let all = offer_all p is h m (drop count us) (λ n i. in_drop count us n i) in
    record {
      sends = all.sends;
      offers = all.offers;
      are_offered = subst (λ dues. AreOffered p.source dues all.sends all.offers)
          (sym (drop-map (due_at p h m) count us)) all.are_offered;
      few = λ u. rw (sent_due p h m u (drop count us) (rise_dropped count us
          (AllPairs-from_increasing us (numbers_rise p.show.patch p.base))) all.are_offered)
          (by_test (list_any (λ k. nat_eq k u) (drop count us))
          (λ q. rw q (one_at_most p.source u (due_at p h m u).place (due_at p h m u).packet))
          (λ q. rw q (omega arith)));
    }

rest_due : (p : Production) (h : List Act) (reading : Reading) (count : ℕ) → IsConsole p
    → Rest p (dues_after p h reading) count
rest_due p h Blank count is = rest_none p count
rest_due p h Malformed count is = rest_none p count
rest_due p h (At m call) count is = go (refusal p.show h (act_of m call)) call
  where
    go : (r : Option Refused) (c : Call) → Rest p (dues_by r c (dues_at p h m)) count
    go (Some refused) c = rest_none p count
    go None (Order c) = rest_none p count
    go None Tick = rest_ticked p h m count is

pub breaks_plays : BreaksArePlays
breaks_plays play newest older offered is is_play broke =
    let p = play.production in
    let h = history_from p.show (play_history play) older in
    let dues = dues_after p h (reading_of newest) in
    let left = rest_due p h (reading_of newest) broke.count is in
    let whole : CarriedLine = record {
      line = newest;
      sends = broke.part ++ left.sends;
      offers = broke.offers ++ left.offers;
    } in
    let whole_offered : AreOffered p.source dues whole.sends whole.offers =
    rw (take-append-drop broke.count dues) at (both_offered broke.are_offered left.are_offered) in
    let goes = plays_go_on play (whole ∷ broke.run) is_play
    (rw broke.lines_are whole_offered, broke.is_run) in
    let sends_are : sends_of_run broke.run ++ (broke.part ++ left.sends) ≡ offered ++ left.sends =
    sym (append_assoc (sends_of_run broke.run) broke.part left.sends)
    ∙ ap (λ sends. sends ++ left.sends) (sym broke.offered_are) in (
      left.sends,
      left.few,
      subst (λ sends. IsPlay (play_on play (newest ∷ older) sends)) sends_are
          (subst (λ lines. IsPlay
          (play_on play (newest ∷ lines) (sends_of_run (whole ∷ broke.run))))
          broke.lines_are goes),
    )
