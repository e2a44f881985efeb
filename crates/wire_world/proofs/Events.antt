-- The consoles and receivers of a rehearsal: as they are opened, and after each event.
use Rattle.std.proofs.Common.{◌≡◌, ℕ, zero, suc, ◌<◌, true, refl, ap, sym, subst, ◌∙◌, List, []}
use Rattle.std.proofs.Common.{◌∷◌, length, set, get_or, Option, Some, None, Result, Ok, Err, inl}
use Rattle.std.proofs.Common.{inr, arith, ◌≤◌, ◌^◌, false, ◌+◌, ◌++◌, length-append, take}
use Rattle.std.proofs.Common.{if◌then◌else◌, not, is_some, slice_get, nat_eq, nat_lt, IfOk, OnOk}
use Rattle.std.proofs.Common.{OnErr, map}
use Rattle.std.proofs.lemmas.Bool.{eq-eqb, le-ltb, lt-ltb, ne_eqb, lt-leb, cases_lt}
use Rattle.std.proofs.lemmas.Option.{slice_get_cases}
use Rattle.sacn_receiver.specs.Kept.{ReceiverState, StandsFor}
use Rattle.wire_world.specs.declared.happening.Occurrence.TheVariants.{Tick}
use Rattle.wire_world.specs.declared.reply.Skip.TheVariants.{NotSent}
use Rattle.wire_world.specs.Replies.{no_console_at, lack_skip, last_event_moment, no_receiver_at}
use Rattle.wire_world.specs.Replies.{taken_reply, datagram_reply, skip_of, event_reply, done_one}
use Rattle.wire_world.specs.Replies.{events_done, reply_to}
use Rattle.wire_world.specs.Stands.{unless_skipped, AllBy, IsStep, is_skip, AreListening}
use Rattle.sacn_receiver.specs.declared.answer.Taken.{Taken}
use Rattle.sacn_receiver.specs.Taking.{accepted_entry, ignore_reason, taken_of, answer}
use Rattle.std.proofs.lemmas.List.{get_or_append_left, get_or_push, length-map, get_or-map}
use Rattle.sacn_source.specs.Kept.{Lane}
use Rattle.sacn_source.specs.Stands.{StandsAt, lane_of}
use Rattle.sacn_receiver.specs.Source as source
use Rattle.wire_world.specs.declared.reply.Reply.TheVariants as reply
use Rattle.wire_world.proofs.Terms.{Production, option_map, option_map_or, result_err}
use Rattle.wire_world.proofs.Terms.{slice_get_within, slice_get_read, get_or_from_slice_get}
use Rattle.wire_world.proofs.Terms.{slice_get-get_or, same_Some, length-set, Refused, Call, Act}
use Rattle.wire_world.proofs.Terms.{refusal, outcome, Happening, Skip, World, console_at, universe_at}
use Rattle.wire_world.proofs.Terms.{no_console, IsIdentity, console_call, unless_refused, acts}
use Rattle.wire_world.proofs.Terms.{bytes_of, datagram, packets_sent, datagram_to, accepted_by}
use Rattle.wire_world.proofs.Terms.{Packet, Deliver, Order, Stray, Show, packet_bytes, AllHear}
use Rattle.wire_world.proofs.Terms.{ConsolesStand, AllTell, AllAre, cast, HasOpened, world_of}
use Rattle.wire_world.proofs.Terms.{SendersAreSources, HasReplayed, front_packet, Ignored, nat_tests}
use Rattle.wire_world.proofs.Terms.{Occurrence, Reply, Tables, Setup, Start, Identity, Stage, StageStands}
use Rattle.wire_world.proofs.Terms.{LinkTells, common_steps}
use Rattle.wire_world.proofs.Wire.{source_of, played_in}
use Rattle.wire_world.proofs.Came.{last_accepted, done_runs}

-- ---- one event at one of the consoles

-- what holds of each element after a write: of the new one at its place, of an old one elsewhere
pub all_set : {A : Type 0} (P : ℕ → A → Type 0) (xs : List A) (k : ℕ) (v : A) → P k v
    → ((j : ℕ) (s : A) → (k ≡ j → ⊥) → slice_get xs j ≡ Some s → P j s)
    → (j : ℕ) (s : A) → slice_get (set xs k v) j ≡ Some s → P j s
all_set P [] k v new old j s e = cc
all_set P (x ∷ xs) zero v new old zero s e = let q : v ≡ s = cc in subst (P zero) q new
all_set P (x ∷ xs) zero v new old (suc j) s e = old (suc j) s (λ h. absurd (omega (arith, h))) e
all_set P (x ∷ xs) (suc k) v new old zero s e = old zero s (λ h. absurd (omega (arith, h))) e
all_set P (x ∷ xs) (suc k) v new old (suc j) s e =
    all_set (λ i. P (suc i)) xs k v new (λ i t n. old (suc i) t (λ h. n (omega (arith, h)))) j s e

-- and after a push: of the new one at the end, of the old ones
all_push : {A : Type 0} (P : ℕ → A → Type 0) (xs : List A) (x : A) → P (length xs) x
    → ((j : ℕ) (y : A) → slice_get xs j ≡ Some y → P j y)
    → (j : ℕ) (y : A) → slice_get (xs ++ x ∷ []) j ≡ Some y → P j y
all_push P [] x new old zero y e = let q : x ≡ y = cc in subst (P zero) q new
all_push P [] x new old (suc j) y e = cc
all_push P (z ∷ xs) x new old zero y e = old zero y e
all_push P (z ∷ xs) x new old (suc j) y e =
    all_push (λ i. P (suc i)) xs x new (λ i. old (suc i)) j y e

-- an element by a number of another width
pub at_number : {A : Type 0} (xs : List A) (i n : ℕ) (x : A) → i ≡ n → i < length xs
    → x ≡ get_or xs i x → slice_get xs n ≡ Some x
at_number xs i n x same l is = rw (← same) (slice_get_read xs (length xs) i x refl l is)

pub tell_set : {S : Type 0} (tells : S → Type 0) (stages : List S) (k : ℕ) (is : S) → tells is
    → AllTell tells stages → AllTell tells (set stages k is)
tell_set tells stages k is new all = all_set (λ _. tells) stages k is new (λ j s _. all j s)

-- no console has this number
pub absent : {S : Type 0} (stages : List S) (k i : ℕ) → i ≡ k → length stages ≤ i → (w : World)
    → length stages ≡ length w.consoles → nat_lt k (length w.consoles) ≡ false
absent stages k i is least w same = le-ltb k (length w.consoles) (omega (arith, same, is, least))

pub err_of : {A : Type 0} (o : Option Refused) (x : A) → result_err (outcome o x) ≡ o
err_of None x = refl
err_of (Some r) x = refl

module _ {S : Type 0} {st : S → Production → List Act → Type 0} {stages : List S} {w : World}
    {past : List Happening} (all : ConsolesStand st stages w past) (k : ℕ) (was : S)
    (at : slice_get stages k ≡ Some was) where
  pub here : nat_lt k (length w.consoles) ≡ true
  here = lt-ltb k (length w.consoles) (omega (arith, slice_get_within stages k was at, all.each))

  -- what a call of console k leaves, from its clauses
  pub stand_call : {A : Type 0} (is : S) (e : Happening) (call : Call) (res : Result A Refused)
      → ((j : ℕ) → console_call j e.what ≡ (if nat_eq k j then Some call else None))
      → ((c : Production) (h : List Act) → st was c h → result_err res ≡ refusal c.show h
      (record { moment = e.moment; call = call }))
      → OnOk res ((c : Production) (h : List Act) → st was c h
      → st is c (record { moment = e.moment; call = call } ∷ h))
      → OnErr res ((c : Production) (h : List Act) → st was c h → st is c h)
      → ConsolesStand st (set stages k is) w (unless_skipped (no_console_at w k) e past)
  stand_call is e call res calls refused ok un = rw here (record {
    each = omega (arith, length-set stages k is, all.each);
    stand = all_set (λ j s. st s (console_at w j) (acts w j (e ∷ past))) stages k is
        (rw (calls k, eq-eqb k k refl, ← refused c h stood) (new res ok un))
        (λ j s apart g. rw (calls j, ne_eqb k j apart) (all.stand j s g));
  })
    where
      c : Production
      c = console_at w k

      h : List Act
      h = acts w k past

      act : Act
      act = record { moment = e.moment; call = call }

      stood : st was c h
      stood = all.stand k was at

      new : {A : Type 0} (res : Result A Refused)
          → OnOk res ((c : Production) (h : List Act) → st was c h → st is c (act ∷ h))
          → OnErr res ((c : Production) (h : List Act) → st was c h → st is c h)
          → st is c (unless_refused (result_err res) act h)
      new (Ok y) ok un = ok c h stood
      new (Err r) ok un = un c h stood

-- ---- replies

pub told : {A B : Type 0} (reply : Result A Refused → B) (x : A) (o : Option Refused)
    → reply (outcome o x) ≡ option_map_or (λ r. reply (Err r)) o (reply (Ok x))
told reply x None = refl
told reply x (Some r) = refl

-- ---- deliveries

is_sent : {B : Type 0} (f : Packet → B) (ps : List Packet) (k : ℕ)
    → nat_lt k (length ps) ≡ is_some (option_map f (slice_get ps k))
is_sent f ps k = grind (arith, nat_tests, (slice_get_cases ps k).1)

-- a packet of a console that was looked up
module _ {S : Type 0} (st : S → Production → List Act → Type 0) (tells : S → Type 0)
    (stages : List S) (receivers : List ReceiverState) (console receiver universe n : ℕ) (was : S)
    (at : slice_get stages console ≡ Some was) (few : receiver < length receivers)
    (o : Option (List ℕ)) (found : (p : Production) (h : List Act) → st was p h → tells was
    → o ≡ bytes_of p h universe n)
    (w : World) (past : List Happening) (all : ConsolesStand st stages w past)
    (tell : AllTell tells stages) (hear : AllHear receivers w past) where
  pub looked_up : (nat_lt receiver (length w.receivers) ≡ true)
      × (o ≡ datagram w console universe n past)
      × (lack_skip w past (Deliver receiver console universe n)
      ≡ (if not (is_some o) then Some NotSent else None))
  looked_up =
      let there : nat_lt receiver (length w.receivers) ≡ true =
      lt-ltb receiver (length w.receivers) (omega (arith, few, hear.each)) in
      let is = found (console_at w console) (acts w console past) (all.stand console was at)
      (tell console was at) in
      let sent = is_sent (packet_bytes (console_at w console).source universe n)
      (packets_sent w console universe past) n in (
        there,
        is,
        rw (here all console was at, there, sent, is) refl,
      )

-- what holds of any value
pub always : {A E : Type 0} (r : Result A E) (P : A → Type 0) → ((a : A) → P a) → IfOk r P
always (Ok a) P h = h a
always (Err e) P h = tt

-- an event that is no call leaves the consoles
pub stand_same : {S : Type 0} {st : S → Production → List Act → Type 0} {stages : List S}
    {w : World} {past : List Happening} (o : Option Skip) (e : Happening)
    → ((j : ℕ) → console_call j e.what ≡ None) → ConsolesStand st stages w past
    → ConsolesStand st stages w (unless_skipped o e past)
stand_same (Some x) e quiet all = all
stand_same None e quiet all = record {
  each = all.each;
  stand = λ i s g. rw (quiet i) (all.stand i s g);
}

-- ---- one datagram at one of the receivers

module _ {receivers : List ReceiverState} {w : World} {past : List Happening}
    (all : AllHear receivers w past) (k : ℕ) (was : ReceiverState)
    (at : slice_get receivers k ≡ Some was) where
  pub there : nat_lt k (length w.receivers) ≡ true
  there = lt-ltb k (length w.receivers)
      (omega (arith, slice_get_within receivers k was at, all.each))

  pub replied_is : (t : ℕ) (d : List ℕ) (res : Result Taken Ignored)
      → ((h : List source.Entry) → StandsFor was h → res ≡ answer 4 was.universe h t d)
      → taken_reply res ≡ option_map_or reply.Skipped (no_receiver_at w k)
      (datagram_reply w k past t d)
  replied_is t d res e =
      rw (there, ← all.universes k was at) (ap taken_reply (e _ (all.stand k was at)))

  -- what a datagram leaves of them
  pub hear_set : (is : ReceiverState) (x : Happening) (t : ℕ) (d : List ℕ)
      (res : Result Taken Ignored)
      → ((h : List source.Entry) → StandsFor was h → res ≡ answer 4 was.universe h t d)
      → OnOk res ((h : List source.Entry) → StandsFor was h
      → StandsFor is (accepted_entry t (front_packet d) ∷ h))
      → OnErr res (is ≡ was) → is.universe ≡ was.universe → x.moment ≡ t
      → ((r : ℕ) → datagram_to w r past x.what ≡ (if nat_eq k r then Some d else None))
      → AllHear (set receivers k is) w (unless_skipped (no_receiver_at w k) x past)
  hear_set is x t d res e ok un same time hands = rw there (record {
    each = omega (arith, length-set receivers k is, all.each);
    universes = all_set (λ r y. y.universe ≡ universe_at w r) receivers k is
        (same ∙ all.universes k was at) (λ r y _. all.universes r y);
    stand = all_set (λ r y. StandsFor y (accepted_by w r (x ∷ past))) receivers k is
        (rw (hands k, eq-eqb k k refl, time, ← all.universes k was at)
        (took (ignore_reason 4 was.universe h t d) (rw (e h stood) at ok) (rw (e h stood) at un)))
        (λ r y apart g. rw (hands r, ne_eqb k r apart) (all.stand r y g));
  })
    where
      h : List source.Entry
      h = accepted_by w k past

      stood : StandsFor was h
      stood = all.stand k was at

      took : (o : Option Ignored) → (let r = option_map_or Err o (Ok (taken_of (front_packet d))) in
          OnOk r ((h : List source.Entry) → StandsFor was h
          → StandsFor is (accepted_entry t (front_packet d) ∷ h)) → OnErr r (is ≡ was)
          → StandsFor is (option_map_or (λ _. h) o (accepted_entry t (front_packet d) ∷ h)))
      took None ok un = ok h stood
      took (Some i) ok un = rw un stood

-- an event that hands nothing over leaves the receivers
pub hear_same : {receivers : List ReceiverState} {w : World} {past : List Happening}
    (o : Option Skip)
    (e : Happening) → ((r : ℕ) → datagram_to w r past e.what ≡ None) → AllHear receivers w past
    → AllHear receivers w (unless_skipped o e past)
hear_same (Some x) e quiet all = all
hear_same None e quiet all = record {
  each = all.each;
  universes = all.universes;
  stand = λ r k g. rw (quiet r) (all.stand r k g);
}

-- ---- one event

taken_no_skip : (r : Result Taken Ignored) → is_skip (taken_reply r) ≡ false
taken_no_skip (Ok x) = refl
taken_no_skip (Err x) = refl

answered_no_skip : (o : Option Refused) (r : Reply) → is_skip r ≡ false
    → is_skip (option_map_or reply.Refused o r) ≡ false
answered_no_skip None r h = h
answered_no_skip (Some x) r h = refl

no_skip : (w : World) (past : List Happening) (t : ℕ) (x : Occurrence)
    → is_skip (event_reply w past t x) ≡ false
no_skip w past t (Order i c) = answered_no_skip _ reply.Done refl
no_skip w past t (Tick i) = answered_no_skip _ (reply.Ticked _ _) refl
no_skip w past t (Deliver r i u k) = taken_no_skip _
no_skip w past t (Stray r from to) = taken_no_skip _
no_skip w past t (Show r) = refl

module _ {S : Type 0} {st : S → Production → List Act → Type 0} {tells : S → Type 0} where
  module _ {stages : List S} {receivers : List ReceiverState} (w : World) (past : List Happening)
      (e : Happening)
    where
      -- an event that is skipped
      pub step_skipped : (s : Skip) (last : ℕ) → skip_of w past e ≡ Some s
          → last ≡ last_event_moment past → AllAre st tells stages receivers w past
          → IsStep st tells stages receivers last (reply.Skipped s) w past e
      step_skipped s last k l are = record { replied = rw k refl; last_is = rw k l; are = rw k are }

      -- one that happens
      pub step_done : (r : Reply) (was last : ℕ) → last_event_moment past ≤ e.moment
          → e.moment < 2 ^ 48 → was ≡ last_event_moment past
          → r ≡ option_map_or reply.Skipped (lack_skip w past e.what)
          (event_reply w past e.moment e.what) → last ≡ (if is_skip r then was else e.moment)
          → ConsolesStand st stages w (unless_skipped (lack_skip w past e.what) e past)
          → AllTell tells stages
          → AllHear receivers w (unless_skipped (lack_skip w past e.what) e past)
          → IsStep st tells stages receivers last r w past e
      step_done r was last after below l is n stand tell hear =
          let k : skip_of w past e ≡ lack_skip w past e.what =
          rw (le-ltb e.moment (last_event_moment past) after, lt-leb (2 ^ 48) e.moment below)
          in record {
            replied = rw k is;
            last_is = n ∙ rw (k, is, l) (go (lack_skip w past e.what));
            are = rw k (record { stand = stand; tell = tell; hear = hear });
          }
        where
          go : (o : Option Skip)
              → (if is_skip (option_map_or reply.Skipped o (event_reply w past e.moment e.what))
              then last_event_moment past else e.moment)
              ≡ last_event_moment (unless_skipped o e past)
          go None = rw (no_skip w past e.moment e.what) refl
          go (Some s) = refl

  -- ---- what is opened

  -- one console more
  pub opened_more : {stages : List S} {shows : List Tables} {setups : List Setup} {i : ℕ} {s : S}
      {setup : Setup} {t : Tables}
      → HasOpened st tells stages shows setups i → slice_get setups i ≡ Some setup
      → slice_get shows setup.show ≡ Some t
      → st s (record { show = t; base = setup.base; source = setup.identity }) [] × tells s
      → HasOpened st tells (stages ++ s ∷ []) shows setups (i + 1)
  opened_more {stages} {shows} {setups} {i} {s} {setup} {t} all here show new = record {
    long = omega (arith, length-append stages (s ∷ []), all.long);
    each = λ j y d e f. all_push
        (λ j y. (d : Setup) → slice_get setups j ≡ Some d → st y (cast shows d) [] × tells y)
        stages s (λ d f. let same : setup ≡ d =
        same_Some setup d (sym here ∙ ap (slice_get setups) (sym all.long) ∙ f) in
        rw (← same, get_or_from_slice_get shows setup.show t no_console.show show) new)
        (λ j y h d f. all.each j y d h f) j y e d f;
  }

  -- what was opened stands for a world in which nothing happened yet
  pub begun : {stages : List S} {receivers : List ReceiverState} {shows : List Tables}
      {setups : List Setup} {universes : List ℕ} (strays : List ℕ)
      → HasOpened st tells stages shows setups (length setups)
      → AreListening receivers universes (length universes)
      → AllAre st tells stages receivers (world_of shows setups universes strays) []
  begun {stages} {receivers} {shows} {setups} strays opened hear = record {
    stand = record {
      each = opened.long ∙ sym (length-map setups (cast shows));
      stand = λ i s e. (each i s e).0;
    };
    tell = λ i s e. (each i s e).1;
    hear = record {
      each = hear.long;
      universes = λ r k e. (hear.each r k e).0;
      stand = λ r k e. (hear.each r k e).1;
    };
  }
    where
      blank : Setup
      blank = record { show = 0; base = 0; identity = no_console.source }

      each : (i : ℕ) (s : S) → slice_get stages i ≡ Some s
          → st s (get_or (map (cast shows) setups) i no_console) [] × tells s
      each i s e =
          let l : i < length setups = omega (arith, slice_get_within stages i s e, opened.long) in
          rw (get_or-map (cast shows) setups i blank no_console l)
          (opened.each i s (get_or setups i blank) e (slice_get-get_or setups i blank l))

  -- ---- what is replayed

  -- one event more
  pub replayed_more : {w : World} {es : List Happening} {i : ℕ} (d : Happening) → i < length es
      → {stages : List S} {receivers : List ReceiverState} {was last : ℕ} {rs : List Reply}
      {r : Reply} {old : List S} {heard : List ReceiverState}
      → HasReplayed st tells old heard was rs w es i
      → IsStep st tells stages receivers last r w (events_done w (take i es)) (get_or es i d)
      → HasReplayed st tells stages receivers last (rs ++ r ∷ []) w es (i + 1)
  replayed_more {w} {es} {i} d within {stages} {receivers} {was} {last} {rs} {r} all step =
      -- the events done, one later
      let more : events_done w (take (i + 1) es)
      ≡ done_one w (events_done w (take i es)) (get_or es i d) =
      grind (arith, common_steps) in record {
        long = omega (arith, length-append rs (r ∷ []), all.long);
        last_is = rw more step.last_is;
        are = rw more step.are;
        below = λ j f l g. slice_get_read (rs ++ r ∷ []) _ j _ refl
            (omega (arith, l, length-append rs (r ∷ []), all.long)) (elim (cases_lt j i) [
              | inl b ↦
                  sym (get_or_append_left rs (r ∷ []) _ j (omega (arith, b, all.long))
                  ∙ get_or_from_slice_get rs j _ _ (all.below j f b g))
              | inr o ↦
                  (let is : i ≡ j = omega arith in
                  sym (get_or_push rs r _ j (all.long ∙ is) ∙ step.replied ∙ rw is
                  (ap (reply_to w (events_done w (take j es))) (get_or_from_slice_get es j f d g))))
            ]);
      }

  -- the receivers are not ahead of the last event
  pub early : {stages : List S} {receivers : List ReceiverState} {last : ℕ} {rs : List Reply}
      {w : World} {es : List Happening} {i : ℕ}
      → HasReplayed st tells stages receivers last rs w es i
      → AllBy receivers last
  early {w = w} {es = es} {i = i} all r k g =
      let by = last_accepted w r (events_done w (take i es)) (done_runs w (take i es)) in
      omega (arith, (all.are.hear.stand r k g).latest_is, by, all.last_is)

-- ---- whoever sends for a console that was opened is a source

pub sources : {F : Type 0} (fs : F → List Start → Type 0) (stages : List (Stage F))
    (shows : List Tables) (setups : List Setup)
    → HasOpened (StageStands fs) LinkTells stages shows setups (length setups)
    → SendersAreSources shows setups
sources {F} fs stages shows setups opened = λ i d within universe played.
    elim (slice_get_cases stages i).1 [
      | inl s ↦
          let setup : Setup = get_or setups i d in
          let stands = (opened.each i s.0 setup s.2 (slice_get-get_or setups i d within)).0 in
          let k = played_in (cast shows setup) universe played in
          let lanes : List Lane = s.0.console.sender in
          lane_source setup.identity (lane_of lanes universe)
          (rw k.2 at (stands.console_stands.streams_stand.streams k.0 universe k.1))
      | inr n ↦ absurd (omega (arith, n.0, opened.long, within))
    ]
  where
    -- a lane that was opened holds a packet
    lane_source : (who : Identity) (lane : Option Lane) → StandsAt who lane [] 0 → IsIdentity who
    lane_source who None stands = absurd stands
    lane_source who (Some lane) stands = let packet = stands.packet in
        source_of who lane.universe packet.0 packet.1 lane.packet _ packet.2
