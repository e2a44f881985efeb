-- What a play's link was offered for a universe: its stream, packet by packet.
use Rattle.cueplayer.proofs.Terms.{◌≡◌, ℕ, suc, ◌+◌, ◌-◌, ◌%◌, true, not, refl, ap, sym, ◌∙◌}
use Rattle.cueplayer.proofs.Terms.{arith, ◌⊎◌, inl, inr, map, List, [], ◌∷◌, ◌++◌, length}
use Rattle.cueplayer.proofs.Terms.{append-nil, Option, Some, None, subst, nat_eq, slice_get}
use Rattle.cueplayer.proofs.Terms.{IfSome, option_map, eqb-true, cond_both, cond-true}
use Rattle.cueplayer.proofs.Terms.{slice_get_within, get_or_from_slice_get, same_Some, Send}
use Rattle.cueplayer.proofs.Terms.{Refused, Act, ticks_since_end, refusal, Offered, options_of}
use Rattle.cueplayer.proofs.Terms.{Identity, Packet, HoldsFull, by_test, In, in_from_place}
use Rattle.cueplayer.proofs.Terms.{AreOffered, none, quiet, sent, Production, due_at, dues_at}
use Rattle.cueplayer.proofs.Terms.{universes_of, latest_frame, Call, Order, Tick, Reading, At}
use Rattle.cueplayer.proofs.Terms.{Blank, Malformed, act_of, reading_of, CarriedLine, IsRun}
use Rattle.cueplayer.proofs.Terms.{history_of, lines_of_run, sends_of_run, acts_by, acts_after}
use Rattle.cueplayer.proofs.Terms.{dues_by, dues_after, packet_bytes, packets_of, is_live, plays}
use Rattle.cueplayer.proofs.Terms.{sent_to, packet_run, IsSendable, source_of, unheard_there}
use Rattle.cueplayer.proofs.Terms.{bytes_are, sent_more, stream_ticked, numbered_at, Play, IsPlay}
use Rattle.cueplayer.proofs.Terms.{play_history, stream_for, sends_for, SendsAreTheStream}
use Rattle.cueplayer.proofs.Terms.{SendsAreAddressed}
use Rattle.console.proofs.Streams as console

no_sends : {source : Identity} {sends : List Send} {pairs : List (ℕ × Offered)}
    → AreOffered source [] sends pairs → sends ≡ []
no_sends none = refl

module _ (p : Production) (u : ℕ) where
  -- the bytes of the universe's stream after a history
  abbrev all : List Act → List (List ℕ)
  all h = packet_run p.source u 0 (packets_of p h u)

  abbrev Grows : List Act → List Act → List Send → Type 0
  Grows h after sends = all h ++ sent_to u sends ≡ all after

  grows_none : (h : List Act) (sends : List Send) → sends ≡ [] → Grows h h sends
  grows_none h sends e = rw e (append-nil (all h))

  grows_called : (h : List Act) (moment : ℕ) (call : Call) (o : Option Refused)
      (sends : List Send) (pairs : List (ℕ × Offered))
      → AreOffered p.source (dues_by o call (dues_at p h moment)) sends pairs
      → Grows h (acts_by o (act_of moment call) h) sends
  grows_called h moment Tick None sends pairs o =
      stream_ticked p h moment sends pairs
      (record { sends = sends; are_offered = o; after_is = refl }) u
  grows_called h moment (Order instruction) None sends pairs o =
      rw (no_sends o, console.ended_same instruction (ticks_since_end h)) (append-nil (all h))
  grows_called h moment Tick (Some r) sends pairs o = grows_none h sends (no_sends o)
  grows_called h moment (Order instruction) (Some r) sends pairs o = grows_none h sends (no_sends o)

  grows : (h : List Act) (reading : Reading) (sends : List Send) (pairs : List (ℕ × Offered))
      → AreOffered p.source (dues_after p h reading) sends pairs
      → Grows h (acts_after p.show reading h) sends
  grows h (At moment call) sends pairs o =
      grows_called h moment call (refusal p.show h (act_of moment call)) sends pairs o
  grows h Blank sends pairs o = grows_none h sends (no_sends o)
  grows h (Malformed) sends pairs o = grows_none h sends (no_sends o)

  pub sent_is : (run : List CarriedLine) → IsRun p run
      → sent_to u (sends_of_run run) ≡ all (history_of p.show (lines_of_run run))
  sent_is [] is = sym (cond_both (plays p u) _ _ (λ ps. packet_run p.source u 0 ps ≡ [])
      (λ _. refl) (λ _. refl))
  sent_is (c ∷ older) is = sent_more u (sends_of_run older) c.sends
      ∙ ap (λ l. l ++ sent_to u c.sends) (sent_is older is.1)
      ∙ grows (history_of p.show (lines_of_run older)) (reading_of c.line) c.sends c.offers is.0

pub sends_stream : SendsAreTheStream
sends_stream play u is = ap (sent_to u) is.offered_are ∙ sent_is play.production u is.run is.is_run
    ∙ ap (λ lines. packet_run play.production.source u 0
    (packets_of play.production (history_of play.production.show lines) u)) is.lines_are

-- ---- a send names its source and universe

-- the bytes of a send are those of a packet that its source may send
pub record IsNamed (p : Production) (send : Send) : Type 0 where
  pub k : ℕ
  pub packet : Packet
  pub sendable : IsSendable p.source send.universe packet
  pub bytes_are : send.bytes ≡ packet_bytes p.source send.universe k packet

in_append : {A : Type 0} (x : A) (xs ys : List A) → In x (xs ++ ys) → In x xs ⊎ In x ys
in_append x [] ys i = inr i
in_append x (y ∷ xs) ys (inl e) = inl (inl e)
in_append x (y ∷ xs) ys (inr i) = elim (in_append x xs ys i) [ inl a ↦ inl (inr a) | inr b ↦ inr b ]

module _ (p : Production) where
  named_due : (h : List Act) (m : ℕ) (ns : List ℕ) {xs : List Send} {pairs : List (ℕ × Offered)}
      → AreOffered p.source (map (due_at p h m) ns) xs pairs → (x : Send) → In x xs → IsNamed p x
  named_due h m [] none x i = absurd i
  named_due h m (n ∷ ns) (quiet d ds xs rest e o) x i = named_due h m ns o x i
  named_due h m (n ∷ ns) (sent d packet y ds xs rest c o) x (inr i) = named_due h m ns o x i
  named_due h m (n ∷ ns) (sent d packet y ds xs rest c o) x (inl e) =
      let place : ℕ = (due_at p h m n).place in
      let size : length packet.slots ≡ 512 =
      subst (λ o. IfSome o HoldsFull) c.packet_is (console.due_full p n h m) in
      rw (e, c.universe_is) (record {
        k = place;
        packet = packet;
        sendable = record {
          who = source_of p.source n (place % 256) (options_of packet.ends) y.bytes packet.slots
              c.bytes_are;
          size = size;
          low = c.bytes_are.universe_from_1;
          high = c.bytes_are.universe_to_63999;
        };
        bytes_are = bytes_are p.source n place packet y.bytes size c.bytes_are;
      })

  named_none : (sends : List Send) → sends ≡ [] → (x : Send) → In x sends → IsNamed p x
  named_none sends e x i = absurd (subst (λ l. In x l) e i)

  named_called : (h : List Act) (moment : ℕ) (call : Call) (o : Option Refused)
      (sends : List Send) (pairs : List (ℕ × Offered))
      → AreOffered p.source (dues_by o call (dues_at p h moment)) sends pairs
      → (x : Send) → In x sends → IsNamed p x
  named_called h moment Tick None sends pairs o = named_due h moment (universes_of p) o
  named_called h moment (Order instruction) None sends pairs o = named_none sends (no_sends o)
  named_called h moment Tick (Some r) sends pairs o = named_none sends (no_sends o)
  named_called h moment (Order instruction) (Some r) sends pairs o = named_none sends (no_sends o)

  named_line : (h : List Act) (reading : Reading) (sends : List Send) (pairs : List (ℕ × Offered))
      → AreOffered p.source (dues_after p h reading) sends pairs
      → (x : Send) → In x sends → IsNamed p x
  named_line h (At moment call) sends pairs o =
      named_called h moment call (refusal p.show h (act_of moment call)) sends pairs o
  named_line h Blank sends pairs o = named_none sends (no_sends o)
  named_line h Malformed sends pairs o = named_none sends (no_sends o)

  pub named : (run : List CarriedLine) → IsRun p run → (x : Send) → In x (sends_of_run run)
      → IsNamed p x
  named [] is x i = absurd i
  named (c ∷ older) is x i = elim (in_append x (sends_of_run older) c.sends i) [
    | inl a ↦ named older is.1 x a
    | inr b ↦
        named_line (history_of p.show (lines_of_run older)) (reading_of c.line) c.sends
        c.offers is.0
        x b
  ]

named_play : (play : Play) → IsPlay play → (x : Send) → In x play.offered
    → IsNamed play.production x
named_play play is x i =
    named play.production is.run is.is_run x (subst (In x) is.offered_are i)

pub sends_addressed : SendsAreAddressed
sends_addressed play send u is among other =
    let n = named_play play is send (in_from_place send play.offered among) in
    rw n.bytes_are (unheard_there play.production.source send.universe n.k n.packet n.sendable u
    other)

-- ---- send k for a universe is packet k of its stream

length_numbered : (source : Identity) (u k : ℕ) (ps : List Packet)
    → length (packet_run source u k ps) ≡ length ps
length_numbered source u k [] = refl
length_numbered source u k (p ∷ ps) = ap suc (length_numbered source u (k + 1) ps)

pub as_many : (play : Play) (u : ℕ) → IsPlay play
    → length (sends_for play u) ≡ length (stream_for play u)
as_many play u is = ap length (sends_stream play u is)
    ∙ length_numbered play.production.source u 0 (stream_for play u)

in_sent : (u : ℕ) (xs : List Send) (k : ℕ) (bytes : List ℕ)
    → slice_get (sent_to u xs) k ≡ Some bytes
    → (x : Send) × In x xs × (x.universe ≡ u)
in_sent u [] k bytes e = absurd (let z : None ≡ Some bytes = e in cc)
in_sent u (x ∷ xs) k bytes e = by_test (nat_eq x.universe u)
    (λ q. (x, inl refl, eqb-true x.universe u q))
    (λ q. let r = in_sent u xs k bytes (rw q at e) in (r.0, inr r.1, r.2))

module _ (p : Production) (u k : ℕ) (h : List Act) (packet : Packet)
    (at : slice_get (packets_of p h u) k ≡ Some packet) where
  played : (plays p u ≡ true) × (slice_get (console.stream p u h) k ≡ Some packet)
  played = by_test (plays p u) (λ q. (q, rw q at at))
      (λ q. let none : slice_get [] k ≡ Some packet = rw q at at in cc)

  pub full : length packet.slots ≡ 512
  full = let ps : List Packet = console.stream p u h in
      subst HoldsFull (get_or_from_slice_get ps k packet packet played.1)
      (console.stream_full p u h k packet (slice_get_within ps k packet played.1))

  pub newest : suc k ≡ length (packets_of p h u)
      → (packet.slots ≡ latest_frame p.show h (u - p.base)) × (packet.ends ≡ not (is_live h))
  newest l = console.newest_means p u h k packet played.1
      (l ∙ ap length (cond-true _ (console.stream p u h) [] played.0))

-- what send k is
pub record IsSent (play : Play) (u k : ℕ) (bytes : List ℕ) : Type 0 where
  pub packet : Packet
  pub at : slice_get (stream_for play u) k ≡ Some packet
  pub sendable : IsSendable play.production.source u packet
  pub bytes_are : bytes ≡ packet_bytes play.production.source u k packet

pub is_sent : (play : Play) (u k : ℕ) (bytes : List ℕ) → IsPlay play
    → slice_get (sends_for play u) k ≡ Some bytes → IsSent play u k bytes
is_sent play u k bytes is e = go (slice_get (stream_for play u) k) refl
    (sym e ∙ ap (λ l. slice_get l k) (sends_stream play u is)
    ∙ numbered_at play.production.source u 0 k (stream_for play u) k (omega arith))
  where
    go : (o : Option Packet) → slice_get (stream_for play u) k ≡ o
        → Some bytes ≡ option_map (packet_bytes play.production.source u k) o
        → IsSent play u k bytes
    go None at f = absurd (let z : Some bytes ≡ None = f in cc)
    go (Some packet) at f =
        let x = in_sent u play.offered k bytes e in
        let n = named_play play is x.0 x.1 in
        record {
          packet = packet;
          at = at;
          sendable = record {
            who = n.sendable.who;
            size = full play.production u k (play_history play) packet at;
            low = rw x.2 at n.sendable.low;
            high = rw x.2 at n.sendable.high;
          };
          bytes_are = same_Some _ _ f;
        }
