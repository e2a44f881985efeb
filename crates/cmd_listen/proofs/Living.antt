-- The sources of a universe are the live records of the source rule.
use Rattle.cmd_listen.proofs.Terms.{◌≡◌, ◌≤◌, ◌<◌, ◌-◌, ℕ, Bool, true, false, not, cond, List, []}
use Rattle.cmd_listen.proofs.Terms.{◌∷◌, map, length, take, refl, ap, sym, ◌∙◌, arith, bytes_eq}
use Rattle.cmd_listen.proofs.Terms.{filter, find, nat_eq, nat_lt, Option, Some, None, option_map}
use Rattle.cmd_listen.proofs.Terms.{option_or, nat_tests, take_all, length-map, length-filter_both}
use Rattle.cmd_listen.proofs.Terms.{fault_of, front_packet, WirePacket, Ignored, Backwards}
use Rattle.cmd_listen.proofs.Terms.{Unreadable, live, Entry, is_accepted, is_taken, is_there}
use Rattle.cmd_listen.proofs.Terms.{last_moment, newest, record_of, records, same_cid}
use Rattle.cmd_listen.proofs.Terms.{accepted_entry, ignore_reason, is_termination, source_reason}
use Rattle.cmd_listen.proofs.Terms.{source_refusal, off_reason, find_records, found_in, In_filter}
use Rattle.cmd_listen.proofs.Terms.{In_length, Instant, Source, Mark, mark_in, mark_of, source_of}
use Rattle.cmd_listen.proofs.Terms.{with_source, without_cid, Knowledge, known_after, after_look}
use Rattle.cmd_listen.proofs.Terms.{looked_after, after_datagram, met_after, new_known}
use Rattle.cmd_listen.proofs.Terms.{sources_with, after_wait}

-- ---- filters

module _ {A : Type 0} (p q : A → Bool) where
  filter_swap : (xs : List A) → filter p (filter q xs) ≡ filter q (filter p xs)
  filter_swap [] = refl
  filter_swap (x ∷ xs) = let ih = filter_swap xs in grind (arith, ih)

  filter_weak : ((x : A) → p x ≡ true → q x ≡ true) → (xs : List A)
      → filter p (filter q xs) ≡ filter p xs
  filter_weak weak [] = refl
  filter_weak weak (x ∷ xs) =
      let ih = filter_weak weak xs in let here = weak x in grind (arith, ih, here)

filter_few : {A : Type 0} (p : A → Bool) (xs : List A) → length (filter p xs) ≤ length xs
filter_few p [] = omega arith
filter_few p (x ∷ xs) = let ih = filter_few p xs in grind (arith, ih)

filter_map_at : {A B : Type 0} (f : A → B) (p : B → Bool) (xs : List A)
    → map f (filter (λ x. p (f x)) xs) ≡ filter p (map f xs)
filter_map_at f p [] = refl
filter_map_at f p (x ∷ xs) = let ih = filter_map_at f p xs in grind (arith, ih)

-- what is found is one of those that pass
found_fewer : {A : Type 0} (p : A → Bool) (e : A) (xs : List A) → find p xs ≡ Some e
    → length (filter (λ x. not (p x)) xs) < length xs
found_fewer p e xs found =
    let r = found_in p e xs found in
    let some = In_length e (filter p xs) (In_filter p e xs r.0 r.1) in
    omega (arith, some, length-filter_both p (λ x. not (p x)) (λ _. refl) xs)

-- ---- the records of a history

abbrev others : List ℕ → Entry → Bool
others cid e = not (same_cid cid e)

abbrev alive : Entry → Bool
alive e = not e.ended

still_there : (t later : ℕ) (e : Entry) → t ≤ later → is_there later e ≡ true → is_there t e ≡ true
still_there t later e le there = grind (arith, nat_tests)

live_later : (t later : ℕ) (h : List Entry) → t ≤ later
    → filter (is_there later) (live h t) ≡ live h later
live_later t later h le =
    filter_swap (is_there later) alive (records h t)
    ∙ ap (filter alive) (filter_weak (is_there later) (is_there t)
    (λ e. still_there t later e le) (newest h))

records_later : (t later : ℕ) (h : List Entry) → t ≤ later → length (records h t) ≤ 4
    → length (records h later) ≤ 4
records_later t later h le few =
    let fewer = filter_few (is_there later) (records h t) in
    omega (
      arith,
      fewer,
      ap length (filter_weak (is_there later) (is_there t)
          (λ e. still_there t later e le) (newest h)),
      few,
    )

-- one packet more
now_there : (t : ℕ) (e : Entry) → e.moment ≡ t → is_there t e ≡ true
now_there t e is = rw is (grind (arith, nat_tests))

records_more : (t : ℕ) (e : Entry) (h : List Entry) → e.moment ≡ t
    → records (e ∷ h) t ≡ e ∷ filter (others e.cid) (records h t)
records_more t e h is = rw (now_there t e is)
    (ap (λ l. e ∷ l) (filter_swap (is_there t) (others e.cid) (newest h)))

live_more : (t : ℕ) (e : Entry) (h : List Entry) → e.moment ≡ t
    → live (e ∷ h) t ≡ cond (alive e) (e ∷ filter (others e.cid) (live h t))
    (filter (others e.cid) (live h t))
live_more t e h is =
    ap (filter alive) (records_more t e h is)
    ∙ ap (λ l. cond (alive e) (e ∷ l) l) (filter_swap alive (others e.cid) (records h t))

-- there is room for one that is accepted
others_few : (t number : ℕ) (cid : List ℕ) (h : List Entry) → length (records h t) ≤ 4
    → is_accepted 4 h t cid number ≡ true → length (filter (others cid) (records h t)) ≤ 3
others_few t number cid h few accepted = go (record_of h t cid) refl
  where
    go : (o : Option Entry) → record_of h t cid ≡ o
        → length (filter (others cid) (records h t)) ≤ 3
    go None is =
        let a : nat_lt (length (records h t)) 4 ≡ true =
        sym (ap (λ o. is_taken 4 o (length (records h t)) number) is) ∙ accepted in
        let fewer = filter_few (others cid) (records h t) in grind (arith, nat_tests)
    go (Some e) is =
        let fewer = found_fewer (same_cid cid) e (records h t) (find_records h t cid ∙ is) in
        omega (arith, fewer, few)

-- what is not ignored was accepted
not_refused : (h : List Entry) (t number : ℕ) (cid : List ℕ)
    → source_refusal 4 h t cid number ≡ None
    → is_accepted 4 h t cid number ≡ true
not_refused h t number cid is = go (is_accepted 4 h t cid number) is
  where
    go : (b : Bool) → cond b None (Some (source_reason (record_of h t cid))) ≡ None → b ≡ true
    go true n = refl
    go false n = cc

none_last : {A : Type 0} (a b : Option A) → option_or a b ≡ None → b ≡ None
none_last None b n = n
none_last (Some x) b n = cc

none_else : {A : Type 0} (b : Bool) (x : A) (o : Option A) → cond b (Some x) o ≡ None → o ≡ None
none_else true x o n = cc
none_else false x o n = n

was_accepted : (universe t : ℕ) (h : List Entry) (d : List ℕ)
    → ignore_reason 4 universe h t d ≡ None
    → is_accepted 4 h t (front_packet d).fields.cid (front_packet d).fields.sequence ≡ true
was_accepted universe t h d none =
    let p = front_packet d in
    not_refused h t p.fields.sequence p.fields.cid
    (none_last (off_reason universe p) (source_refusal 4 h t p.fields.cid p.fields.sequence)
    (none_last (option_map Unreadable (fault_of d)) _
    (none_else (nat_lt t (last_moment h)) Backwards _ none)))

-- ---- the sources of a universe

abbrev AreLive : ℕ → List Source → List Entry → Type 0
AreLive t sources h = map mark_of sources ≡ map mark_in (live h t)

pub record Fits (t : ℕ) (k : Knowledge) : Type 0 where
  pub same : map mark_of k.sources ≡ map mark_in (live k.heard t)
  pub few : length (records k.heard t) ≤ 4

waited_fits : (i : Instant) (t : ℕ) (k : Knowledge) → t ≤ i.moment → Fits t k
    → Fits i.moment (after_wait i k)
waited_fits i t k le fits =
    let test : Mark → Bool = λ m. nat_lt (i.moment - m.moment) 2500 in
    record {
      same = filter_map_at mark_of test k.sources ∙ ap (filter test) fits.same
          ∙ sym (filter_map_at mark_in test (live k.heard t))
          ∙ ap (map mark_in) (live_later t i.moment k.heard le);
      few = records_later t i.moment k.heard le fits.few;
    }

without_same : (t : ℕ) (cid : List ℕ) (sources : List Source) (h : List Entry)
    → AreLive t sources h
    → map mark_of (without_cid cid sources) ≡ map mark_in (filter (others cid) (live h t))
without_same t cid sources h same =
    let test : Mark → Bool = λ m. not (bytes_eq cid m.cid) in
    filter_map_at mark_of test sources ∙ ap (filter test) same
    ∙ sym (filter_map_at mark_in test (live h t))

without_few : (t : ℕ) (cid : List ℕ) (sources : List Source) (h : List Entry)
    → AreLive t sources h → length (filter (others cid) (records h t)) ≤ 3
    → length (without_cid cid sources) ≤ 3
without_few t cid sources h same few =
    let live_few = filter_few alive (filter (others cid) (records h t)) in
    omega (
      arith,
      sym (length-map (without_cid cid sources) mark_of)
          ∙ ap length (without_same t cid sources h same)
          ∙ length-map (filter (others cid) (live h t)) mark_in
          ∙ ap length (filter_swap (others cid) alive (records h t)),
      live_few,
      few,
    )

taken_same : (t : ℕ) (p : WirePacket) (sources : List Source) (h : List Entry) → AreLive t sources h
    → length (filter (others p.fields.cid) (records h t)) ≤ 3
    → map mark_of (sources_with t p sources) ≡ map mark_in (live (accepted_entry t p ∷ h) t)
taken_same t p sources h same few =
    let rest = without_same t p.fields.cid sources h same in
    let all : take 3 (without_cid p.fields.cid sources) ≡ without_cid p.fields.cid sources =
    take_all 3 (without_cid p.fields.cid sources) (without_few t p.fields.cid sources h same few) in
    go (is_termination p) rest all
    ∙ sym (ap (map mark_in) (live_more t (accepted_entry t p) h refl))
  where
    go : (b : Bool)
        → map mark_of (without_cid p.fields.cid sources)
        ≡ map mark_in (filter (others p.fields.cid) (live h t))
        → take 3 (without_cid p.fields.cid sources) ≡ without_cid p.fields.cid sources
        → map mark_of (cond b (without_cid p.fields.cid sources)
        (with_source (source_of t p) sources))
        ≡ map mark_in (cond (not b)
        (accepted_entry t p ∷ filter (others p.fields.cid) (live h t))
        (filter (others p.fields.cid) (live h t)))
    go true rest all = rest
    go false rest all = ap (λ l. mark_of (source_of t p) ∷ map mark_of l) all
        ∙ ap (λ l. mark_of (source_of t p) ∷ l) rest

met_fits : (t : ℕ) (d : List ℕ) (k : Knowledge) → Fits t k → Fits t (after_datagram t d k)
met_fits t d k fits = go (ignore_reason 4 k.universe k.heard t d) refl
  where
    p : WirePacket
    p = front_packet d

    go : (o : Option Ignored) → ignore_reason 4 k.universe k.heard t d ≡ o
        → Fits t (after_datagram t d k)
    go (Some reason) is = rw is (record { same = fits.same; few = fits.few })
    go None is =
        let few = others_few t p.fields.sequence p.fields.cid k.heard fits.few
        (was_accepted k.universe t k.heard d is) in
        rw is (record {
          same = taken_same t p k.sources k.heard fits.same few;
          few = omega (arith, ap length (records_more t (accepted_entry t p) k.heard refl), few);
        })

met_after_fits : (i : Instant) (d : List ℕ) (k : Knowledge) → Fits i.moment k
    → Fits i.moment (met_after i d k)
met_after_fits i d k fits = go (nat_eq i.to k.universe)
  where
    go : (b : Bool) → Fits i.moment (cond b (after_datagram i.moment d k) k)
    go true = met_fits i.moment d k fits
    go false = fits

looked_fits : (i : Instant) (k : Knowledge) → Fits i.moment k → Fits i.moment (looked_after i k)
looked_fits i k fits = go i.looks
  where
    go : (b : Bool) → Fits i.moment (cond b (after_look i.moment k) k)
    go true = record { same = fits.same; few = fits.few }
    go false = fits

pub known_fits : (i : Instant) (d : List ℕ) (t : ℕ) (k : Knowledge) → t ≤ i.moment → Fits t k
    → Fits i.moment (known_after i d k)
known_fits i d t k le fits =
    looked_fits i _ (met_after_fits i d _ (waited_fits i t k le fits))

pub new_fits : (universe : ℕ) → Fits 0 (new_known universe)
new_fits universe = record { same = refl; few = omega arith }
