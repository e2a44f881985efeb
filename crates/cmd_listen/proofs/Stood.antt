-- What a monitor stands for, step by step.
use Rattle.cmd_listen.proofs.Terms.{◌≡◌, ℕ, ◌≤◌, Bool, true, false, not, List, ◌∷◌, ◌++◌, max, refl}
use Rattle.cmd_listen.proofs.Terms.{ap, sym, ◌∙◌, append-nil, append_assoc, arith, codes, bytes_eq}
use Rattle.cmd_listen.proofs.Terms.{Option, Some, None, Ok, Err, option_map_or, not-true}
use Rattle.cmd_listen.proofs.Terms.{bytes_eq-Decides, front_packet, Ignored, Taken, ReceiverState}
use Rattle.cmd_listen.proofs.Terms.{StandsFor, shown_slots, Entry, last_moment, answer}
use Rattle.cmd_listen.proofs.Terms.{accepted_entry, history_after, ignore_reason, slots_line}
use Rattle.cmd_listen.proofs.Terms.{Monitor, with_one_more, ignored_place, Instant, changes}
use Rattle.cmd_listen.proofs.Terms.{line_head, here, MonitorStands, Knowledge, universe_answer}
use Rattle.cmd_listen.proofs.Terms.{counts_by, head, after_look, looked_text, after_datagram}
use Rattle.cmd_listen.proofs.Terms.{met_text, sources_by, sources_with, text_by, counts_after}
use Rattle.cmd_listen.proofs.Terms.{looked_after, told_counts, told_looked, after_wait, waited_text}

-- ---- equal bytes

itself : (xs : List ℕ) → bytes_eq xs xs ≡ true
itself xs = (bytes_eq-Decides xs xs).1 refl

-- ---- a look

-- the moment of a look is never before the last packet
pub no_later : (t now last : ℕ) → now ≡ last → last ≤ t → max t now ≡ t
no_later t now last is late = omega arith

pub look_same : (t : ℕ) (m : Monitor) (k : Knowledge) (out text : List ℕ) → MonitorStands t m k
    → out ≡ shown_slots k.heard t → bytes_eq out m.slots ≡ true
    → MonitorStands t m (after_look t k) × (text ≡ text ++ looked_text t k)
look_same t m k out text s shown same =
    let e : m.slots ≡ shown_slots k.heard t =
    sym ((bytes_eq-Decides out m.slots).0 same) ∙ shown in
    let b : bytes_eq k.slots (shown_slots k.heard t) ≡ true =
    ap (λ l. bytes_eq l (shown_slots k.heard t)) (sym s.slots_are ∙ e)
    ∙ itself (shown_slots k.heard t) in (
      record {
        receiver_stands = s.receiver_stands;
        receiver_is = s.receiver_is;
        universe_is = s.universe_is;
        sources_are = s.sources_are;
        counts_are = s.counts_are;
        slots_are = e;
        late = s.late;
      },
      rw b (sym (append-nil text)),
    )

other : (a b c d : List ℕ) → a ≡ b → c ≡ d → bytes_eq a c ≡ false → bytes_eq d b ≡ false
other a b c d e f differs = go (bytes_eq d b) refl
  where
    go : (t : Bool) → bytes_eq d b ≡ t → bytes_eq d b ≡ false
    go true is = let same : d ≡ b = (bytes_eq-Decides d b).0 is in
        let h : true ≡ false = sym (itself c) ∙ ap (λ l. bytes_eq l c) (f ∙ same ∙ sym e) ∙ differs
        in cc
    go false is = is

pub look_other : (t : ℕ) (old new : Monitor) (k : Knowledge) (text mid all : List ℕ)
    → MonitorStands t old k
    → new ≡ record old { slots = new.slots } → new.slots ≡ shown_slots k.heard t
    → bytes_eq new.slots old.slots ≡ false
    → mid ≡ text ++ line_head (head t old.universe) → all ≡ mid ++ slots_line new.slots
    → MonitorStands t new (after_look t k) × (all ≡ text ++ looked_text t k)
look_other t old new k text mid all s is shown differs first second =
    let b : bytes_eq k.slots (shown_slots k.heard t) ≡ false =
    other new.slots (shown_slots k.heard t) old.slots k.slots shown s.slots_are differs in (
      rw is (record {
        receiver_stands = s.receiver_stands;
        receiver_is = s.receiver_is;
        universe_is = s.universe_is;
        sources_are = s.sources_are;
        counts_are = s.counts_are;
        slots_are = shown;
        late = s.late;
      }),
      rw b (second ∙ ap (λ l. mid ++ slots_line l) shown
          ∙ ap (λ l. l ++ slots_line (shown_slots k.heard t))
          (first ∙ ap (λ u. text ++ line_head (head t u)) s.universe_is)
          ∙ append_assoc text (line_head (head t k.universe)) (slots_line (shown_slots k.heard t))),
    )

was_true : (t : Bool) → not t ≡ false → t ≡ true
was_true true is = refl
was_true false is = sym is

pub looks_not : (i : Instant) (m : Monitor) (k : Knowledge) (text : List ℕ) → not i.looks ≡ true
    → MonitorStands i.moment m k → MonitorStands i.moment m (looked_after i k)
    × (text ≡ text ++ told_looked i k)
looks_not i m k text is s = rw (not-true i.looks is) (s, sym (append-nil text))

pub looks : (i : Instant) (m : Monitor) (k : Knowledge) (text all : List ℕ) → not i.looks ≡ false
    → MonitorStands i.moment m (after_look i.moment k) × (all ≡ text ++ looked_text i.moment k)
    → MonitorStands i.moment m (looked_after i k) × (all ≡ text ++ told_looked i k)
looks i m k text all is shown = rw (was_true i.looks is) shown

-- ---- a datagram

heard_late : (t : ℕ) (h : List Entry) (e : Entry) (o : Option Ignored) → last_moment h ≤ t
    → e.moment ≡ t → last_moment (option_map_or (λ _. h) o (e ∷ h)) ≤ t
heard_late t h e None late is = omega (arith, is)
heard_late t h e (Some reason) late is = late

pub met_late : (t universe : ℕ) (h : List Entry) (datagram : List ℕ) → last_moment h ≤ t
    → last_moment (history_after 4 universe h t datagram) ≤ t
met_late t universe h datagram late = heard_late t h (accepted_entry t (front_packet datagram))
    (ignore_reason 4 universe h t datagram) late refl

pub met_taken : (t : ℕ) (datagram : List ℕ) (old new : Monitor) (receiver : ReceiverState)
    (k : Knowledge)
    (taken : Taken) (text all : List ℕ) → MonitorStands t old k
    → Ok taken ≡ answer 4 old.receiver.universe k.heard t datagram
    → StandsFor receiver (history_after 4 old.receiver.universe k.heard t datagram)
    → receiver.universe ≡ old.receiver.universe
    → new ≡ record old { receiver = receiver; sources = new.sources }
    → new.sources.items ≡ sources_with t (front_packet datagram) old.sources.items
    → all ≡ text ++ changes (head t old.universe) (codes "ended") old.sources.items
    (sources_with t (front_packet datagram) old.sources.items)
    → MonitorStands t new (after_datagram t datagram k) × (all ≡ text ++ met_text t datagram k)
met_taken t datagram old new receiver k taken text all s answers stands same is sources told =
    let a : Ok taken ≡ universe_answer k t datagram = rw s.receiver_is at answers in (
      rw is (record {
        receiver_stands = rw s.receiver_is at stands;
        receiver_is = same ∙ s.receiver_is;
        universe_is = s.universe_is;
        sources_are = sources ∙ ap (sources_with t (front_packet datagram)) s.sources_are
            ∙ ap (λ r. sources_by r t datagram k.sources) a;
        counts_are = s.counts_are ∙ ap (λ r. counts_by r datagram k.counts) a;
        slots_are = s.slots_are;
        late = met_late t k.universe k.heard datagram s.late;
      }),
      told ∙ ap (λ u. text ++ changes (head t u) (codes "ended") old.sources.items
          (sources_with t (front_packet datagram) old.sources.items)) s.universe_is
          ∙ ap (λ l. text ++ changes (head t k.universe) (codes "ended") l
          (sources_with t (front_packet datagram) l)) s.sources_are
          ∙ ap (λ r. text ++ text_by r t datagram k) a,
    )

pub met_ignored : (t : ℕ) (datagram : List ℕ) (old new : Monitor) (receiver : ReceiverState)
    (k : Knowledge)
    (reason : Ignored) (text : List ℕ) → MonitorStands t old k
    → Err reason ≡ answer 4 old.receiver.universe k.heard t datagram
    → StandsFor receiver (history_after 4 old.receiver.universe k.heard t datagram)
    → receiver.universe ≡ old.receiver.universe
    → new ≡ record old { receiver = receiver; counts = new.counts }
    → new.counts ≡ with_one_more (ignored_place datagram reason) old.counts
    → MonitorStands t new (after_datagram t datagram k) × (text ≡ text ++ met_text t datagram k)
met_ignored t datagram old new receiver k reason text s answers stands same is counts =
    let a : Err reason ≡ universe_answer k t datagram = rw s.receiver_is at answers in (
      rw is (record {
        receiver_stands = rw s.receiver_is at stands;
        receiver_is = same ∙ s.receiver_is;
        universe_is = s.universe_is;
        sources_are = s.sources_are ∙ ap (λ r. sources_by r t datagram k.sources) a;
        counts_are = counts ∙ ap (with_one_more (ignored_place datagram reason)) s.counts_are
            ∙ ap (λ r. counts_by r datagram k.counts) a;
        slots_are = s.slots_are;
        late = met_late t k.universe k.heard datagram s.late;
      }),
      sym (append-nil text) ∙ ap (λ r. text ++ text_by r t datagram k) a,
    )

-- ---- the clock

pub waits : (i : Instant) (t : ℕ) (old new : Monitor) (k : Knowledge) (text mid all : List ℕ)
    → MonitorStands t old k → t ≤ i.moment
    → new ≡ record old { counts = new.counts; sources = new.sources }
    → new.counts ≡ counts_after i old.counts
    → new.sources.items ≡ here i.moment old.sources.items
    → mid ≡ text ++ told_counts i old.universe old.counts
    → all ≡ mid ++ changes (head i.moment old.universe) (codes "gone") old.sources.items
    (here i.moment old.sources.items)
    → MonitorStands i.moment new (after_wait i k) × (all ≡ text ++ waited_text i k)
waits i t old new k text mid all s le is counts sources first second =
    let gone : List ℕ = changes (head i.moment k.universe) (codes "gone") k.sources
    (here i.moment k.sources) in (
      rw is (record {
        receiver_stands = s.receiver_stands;
        receiver_is = s.receiver_is;
        universe_is = s.universe_is;
        sources_are = sources ∙ ap (here i.moment) s.sources_are;
        counts_are = counts ∙ ap (counts_after i) s.counts_are;
        slots_are = s.slots_are;
        late = omega (arith, s.late, le);
      }),
      second ∙ ap (λ u. mid ++ changes (head i.moment u) (codes "gone") old.sources.items
          (here i.moment old.sources.items)) s.universe_is
          ∙ ap (λ l. mid ++ changes (head i.moment k.universe) (codes "gone") l (here i.moment l))
          s.sources_are
          ∙ ap (λ l. l ++ gone) (first ∙ ap (λ u. text ++ told_counts i u old.counts) s.universe_is
          ∙ ap (λ l. text ++ told_counts i k.universe l) s.counts_are)
          ∙ append_assoc text (told_counts i k.universe k.counts) gone,
    )
