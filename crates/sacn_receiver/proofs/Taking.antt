-- What a receiver answers, where it keeps the packet, and for which history it stands then.
use Rattle.std.proofs.Common.{◌≡◌, ℕ, zero, suc, ◌+◌, ◌-◌, ◌<◌, ◌≤◌, Bool, true, false, not, ◌&&◌}
use Rattle.std.proofs.Common.{refl, ap, ap₂, arith, sym, subst, ◌∙◌, one-add, List, [], ◌∷◌, map}
use Rattle.std.proofs.Common.{length, get_or, Option, Some, None, Result, Ok, Err}
use Rattle.std.specs.Prelude.{nat_lt, if◌then◌else◌, filter, find, IfOk, slice_get}
use Rattle.std.specs.Option.{option_map, option_and_then, unwrap_or, option_or, option_map_or}
use Rattle.std.specs.Result.{result_err}
use Rattle.std.specs.List.{position, position_or_len}
use Rattle.std.proofs.lemmas.Bool.{ltb-true, le-ltb, cond_both}
use Rattle.std.proofs.lemmas.Bool.Decides.{nat_tests}
use Rattle.std.proofs.lemmas.Cmp.{nat_list_eq_equiv}
use Rattle.std.proofs.lemmas.Option.{cond_some, slice_get-get_or, slice_get_past}
use Rattle.std.proofs.lemmas.List.{length-map}
use Rattle.std.proofs.lemmas.List.Filters.{length-filter_both}
use Rattle.std.proofs.lemmas.List.Folds.{find_at}
use Rattle.std.proofs.lemmas.List.Sums.{prefix_len-le-length}
use Rattle.sacn_packet.specs.Wire.{WirePacket, HasPacket}
use Rattle.sacn_packet.specs.Reading.{front_packet}
use Rattle.sacn_packet.specs.Faults.{fault_of}
use Rattle.sacn_packet.proofs.Found.{packet_ends}
use Rattle.sacn_receiver.specs.declared.record.Record.{Record}
use Rattle.sacn_receiver.specs.declared.answer.Ignored.{Ignored}
use Rattle.sacn_receiver.specs.declared.answer.Ignored.TheVariants.{OutOfSequence, SourcesFull}
use Rattle.sacn_receiver.specs.declared.answer.Ignored.TheVariants.{Backwards, Unreadable}
use Rattle.sacn_receiver.specs.Source.{Entry, same_cid, is_there, is_after, records, while_there}
use Rattle.sacn_receiver.specs.Source.{record_of, is_taken, last_moment}
use Rattle.sacn_receiver.specs.Arrivals.{not_heard}
use Rattle.sacn_receiver.specs.Taking.{source_reason, source_refusal, accepted_entry, off_reason}
use Rattle.sacn_receiver.specs.Taking.{ignored_packet}
use Rattle.sacn_receiver.specs.Taking.{ignore_reason, taken_of, answer, history_after}
use Rattle.sacn_receiver.specs.Records.{entries, kept_entry}
use Rattle.sacn_receiver.specs.Places.{AreDistinct, IsFree, IsPlace, put}
use Rattle.sacn_receiver.specs.Kept.{ReceiverState, StandsFor}
use Rattle.sacn_receiver.proofs.Members.{by_test, found_in, In_filter, In_length, none_first}
use Rattle.sacn_receiver.proofs.Apart.{alone, find_kept, kept_distinct, there_kept, find_records}
use Rattle.sacn_receiver.proofs.Apart.{records_distinct, as_many}

-- what the source rule refuses, by the record of the CID and how many there are
abbrev by_record : ℕ → Option Entry → ℕ → ℕ → Option Ignored
by_record room o count number =
    if is_taken room o count number then None else Some (source_reason o)

-- what a history refuses, by what is there of entries that give each CID the same record
refused_by : (t : ℕ) (es h : List Entry) → AreDistinct es
    → ((cid : List ℕ) → record_of es t cid ≡ record_of h t cid)
    → (room : ℕ) (cid : List ℕ) (number : ℕ) → source_refusal room h t cid number
    ≡ by_record room (record_of es t cid) (length (filter (is_there t) es)) number
refused_by t es h d s room cid number =
    ap₂ (λ o n. by_record room o n number) (sym (s cid))
    (as_many (records h t) (filter (is_there t) es) (records_distinct h t)
    (kept_distinct (is_there t) es d) (λ c. find_records h t c ∙ sym (s c)
    ∙ sym (find_kept (is_there t) c es d ∙ there_kept t (find (same_cid c) es))))

-- the first that passes is at its place, if it has one
found_at : {A : Type 0} (p : A → Bool) (xs : List A)
    → find p xs ≡ option_and_then (slice_get xs) (position p xs)
found_at p xs = grind (arith, nat_tests, find_at p xs, slice_get_past xs (position_or_len p xs))

-- and behind all, if there is none
pub or_behind : {A : Type 0} (p : A → Bool) (xs : List A)
    → unwrap_or (position p xs) (length xs) ≡ position_or_len p xs
or_behind p xs = grind (arith, nat_tests, prefix_len-le-length (λ x. not (p x)) xs)

find_mapped : {A B : Type 0} (f : A → B) (p : B → Bool) (xs : List A)
    → find p (map f xs) ≡ option_map f (find (λ x. p (f x)) xs)
find_mapped f p [] = refl
find_mapped f p (x ∷ xs) = grind (arith, find_mapped f p xs)

module _ (t : ℕ) where
  abbrev gone : Record → Bool
  gone r = not (is_there t (kept_entry r))

  -- each record is there or gone
  each : (rs : List Record) → length (filter (is_there t) (entries rs))
      + length (filter (λ e. not (is_there t e)) (entries rs)) ≡ length rs
  each rs =
      length-filter_both (is_there t) (λ e. not (is_there t e)) (λ _. refl) (entries rs)
      ∙ length-map rs kept_entry

  -- one of some records is gone exactly if fewer than all are there
  room : (n : ℕ) (rs : List Record) → length rs ≤ n → nat_lt (position_or_len gone rs) n
      ≡ nat_lt (length (filter (is_there t) (entries rs))) n
  room n [] few = refl
  room zero (r ∷ rs) few = absurd (omega arith)
  room (suc n) (r ∷ rs) few =
      let ih = room n rs (omega arith) in
      by_test (is_there t (kept_entry r)) (λ k. rw k (grind (arith, nat_tests, ih)))
      (λ k. rw k (grind (arith, nat_tests, few, each rs)))

  module _ (cid : List ℕ) where
    abbrev own : Record → Bool
    own r = same_cid cid (kept_entry r)

    own_found : (rs : List Record) → find (same_cid cid) (entries rs)
        ≡ option_map kept_entry (option_and_then (slice_get rs) (position own rs))
    own_found rs =
        find_mapped kept_entry (same_cid cid) rs ∙ ap (option_map kept_entry) (found_at own rs)

    -- the place of the CID's own record may go, and without one that of the first that is gone
    own_free : (rs : List Record) → AreDistinct (entries rs)
        → IsFree t cid (entries rs) (position_or_len own rs)
    own_free [] a = tt
    own_free (r ∷ rs) a =
        by_test (own r) (λ h. rw h (rw h, alone cid (kept_entry r) (entries rs) a h))
        (λ h. rw (h, one-add) (h, own_free rs a.1))

    gone_free : (rs : List Record) → find (same_cid cid) (entries rs) ≡ None
        → IsFree t cid (entries rs) (position_or_len gone rs)
    gone_free [] n = tt
    gone_free (r ∷ rs) n =
        let m = none_first (same_cid cid) (kept_entry r) (entries rs) n in
        by_test (is_there t (kept_entry r)) (λ k. rw (k, one-add) (m.0, gone_free rs m.1))
        (λ k. rw k (rw (m.0, k), m.1))

module _ (rs : List Record) (t : ℕ) (cid : List ℕ) (number : ℕ) (few : length rs ≤ 4)
    (apart : AreDistinct (entries rs)) where
  abbrev there : ℕ
  there = length (filter (is_there t) (entries rs))

  refused : (o : Option Entry) → find (same_cid cid) (entries rs) ≡ o
      → source_refusal 4 (entries rs) t cid number ≡ by_record 4 (while_there t o) there number
  refused o e = refused_by t (entries rs) (entries rs) apart (λ c. refl) 4 cid number
      ∙ ap (λ o. by_record 4 (while_there t o) there number) e

  -- what is answered to a packet of the CID: its place, or why it is refused
  abbrev IsPlaced : Result ℕ Ignored → Type 0
  IsPlaced r = record {
    place : IfOk r (λ i. IsPlace (entries rs) t cid i);
    refused : result_err r ≡ source_refusal 4 (entries rs) t cid number;
  }

  -- a CID with a record, at a place
  module _ (i : ℕ) (is : position (own t cid) rs ≡ Some i) (d : Record) (b : Bool)
      (overtaken : b ≡ (is_there t (kept_entry (get_or rs i d))
      && not (is_after (get_or rs i d).number number))) where
    at : (nat_lt (position_or_len (own t cid) rs) (length rs) ≡ true)
        × (position_or_len (own t cid) rs ≡ i)
    at = cond_some _ (position_or_len (own t cid) rs) i is

    within : i < length rs
    within = omega (arith, ltb-true (position_or_len (own t cid) rs) (length rs) at.0, at.1)

    known_refused : (if b then Some OutOfSequence else None)
        ≡ source_refusal 4 (entries rs) t cid number
    known_refused = rw overtaken (
        let e : Entry = kept_entry (get_or rs i d) in
        let found : find (same_cid cid) (entries rs) ≡ Some e = own_found t cid rs
        ∙ ap (λ o. option_map kept_entry (option_and_then (slice_get rs) o)) is
        ∙ ap (option_map kept_entry) (slice_get-get_or rs i d within) in
        let room : is_there t e ≡ false → there < 4 = λ k.
        let left = In_length e _ (In_filter (λ e. not (is_there t e)) e (entries rs)
        (found_in (same_cid cid) e (entries rs) found).0 (ap not k)) in
        omega (arith, few, each t rs, left) in
        grind (arith, nat_tests, room) ∙ sym (refused (Some e) found))

    pub known : IsPlaced (if b then Err OutOfSequence else Ok i)
    known = record {
      place = cond_both b _ _ (λ r. IfOk r (λ i. IsPlace (entries rs) t cid i)) (λ _. tt)
          (λ _. record {
            within = omega (arith, within, length-map rs kept_entry);
            room = omega (arith, within, few);
            free = subst (IsFree t cid (entries rs)) at.1 (own_free t cid rs apart);
          });
      refused = grind arith ∙ known_refused;
    }

  -- a CID without one
  module _ (r : Result ℕ Ignored) (is : position (own t cid) rs ≡ None)
      (f : r ≡ (if nat_lt (position_or_len (gone t) rs) 4 then Ok (position_or_len (gone t) rs)
      else Err SourcesFull)) where
    nowhere : find (same_cid cid) (entries rs) ≡ None
    nowhere = own_found t cid rs
        ∙ ap (λ o. option_map kept_entry (option_and_then (slice_get rs) o)) is

    pub new : IsPlaced r
    new = record {
      place = rw f (cond_both (nat_lt (position_or_len (gone t) rs) 4)
          (Ok (position_or_len (gone t) rs)) (Err SourcesFull)
          (λ r. IfOk r (λ i. IsPlace (entries rs) t cid i)) (λ h.
          let most = prefix_len-le-length (λ r. not (gone t r)) rs in record {
            within = omega (arith, most, length-map rs kept_entry);
            room = ltb-true _ 4 h;
            free = gone_free t cid rs nowhere;
          }) (λ h. tt));
      refused =
          ap result_err f ∙ grind (arith, room t 4 rs few) ∙ sym (refused None nowhere);
    }

-- a record stays away once it is gone
still_gone : (t u m : ℕ) → t ≤ u → nat_lt (t - m) 2500 ≡ false → nat_lt (u - m) 2500 ≡ false
still_gone t u m l q = grind (arith, nat_tests)

module _ (e : Entry) (c : List ℕ) where
  -- of two entries of one CID the third tells both apart
  alike : (x : Entry) → same_cid c x ≡ true → same_cid e.cid x ≡ same_cid c e
  alike x k = nat_list_eq_equiv.symm e.cid x.cid ∙ sym (nat_list_eq_equiv.congr c x.cid e.cid k)

  -- the record of each CID, where a packet takes the place of one that may go
  pub put_record : (t : ℕ) → e.moment ≤ t → (es : List Entry) (i : ℕ)
      → IsFree e.moment e.cid es i → AreDistinct es
      → record_of (put es i e) t c ≡ record_of (e ∷ es) t c
  put_record t l [] zero f a = refl
  put_record t l [] (suc i) f a = refl
  put_record t l (x ∷ xs) zero f a =
      let gone = still_gone e.moment t x.moment l in
      by_test (same_cid c x) (λ k. let none = alone c x xs a k in let same = alike x k in
      grind (arith, f.0, k, none, same, gone)) (λ k. grind (arith, k))
  put_record t l (x ∷ xs) (suc i) f a =
      by_test (same_cid c x)
      (λ k. let h : same_cid c e ≡ false = sym (alike x k) ∙ f.0 in rw (k, h))
      (λ k. rw k (put_record t l xs i f.1 a.1))

  none_put : same_cid c e ≡ false → (es : List Entry) (i : ℕ) → find (same_cid c) es ≡ None
      → find (same_cid c) (put es i e) ≡ None
  none_put h [] zero n = rw h
  none_put h [] (suc i) n = rw h
  none_put h (x ∷ xs) zero n = rw h (none_first (same_cid c) x xs n).1
  none_put h (x ∷ xs) (suc i) n =
      let m = none_first (same_cid c) x xs n in rw m.0 (none_put h xs i m.1)

put_distinct : (es : List Entry) (i : ℕ) (e : Entry) → AreDistinct es
    → IsFree e.moment e.cid es i → AreDistinct (put es i e)
put_distinct [] zero e a f = (refl, tt)
put_distinct [] (suc i) e a f = (refl, tt)
put_distinct (x ∷ xs) zero e a f = (f.1, a.1)
put_distinct (x ∷ xs) (suc i) e a f = (
  none_put e x.cid (nat_list_eq_equiv.symm x.cid e.cid ∙ f.0) xs i a.0,
  put_distinct xs i e a.1 f.1,
)

-- a packet at its place: after it, the receiver stands for the longer history
module _ (t : ℕ) (d : List ℕ) (p : WirePacket) (has : HasPacket d p) (r : ReceiverState) (i : ℕ)
    (apart : AreDistinct r.records) (place : IsPlace r.records t p.fields.cid i)
    (new : List Entry) (kept : new ≡ put r.records i (accepted_entry t p)) where
  pub kept_apart : AreDistinct new
  kept_apart = rw kept (put_distinct r.records i (accepted_entry t p) apart place.free)

  abbrev after : ReceiverState
  after = record { universe = r.universe; latest = t; records = new }

  pub kept_stands : (h : List Entry) → r.latest ≤ t → StandsFor r h
      → StandsFor after (accepted_entry t (front_packet d) ∷ h)
  kept_stands h time s =
      subst (λ q. StandsFor after (accepted_entry t q ∷ h)) (sym (packet_ends d p has))
      (rw kept (record {
        latest_is = refl;
        records_are = λ u c m. put_record (accepted_entry t p) c u m r.records i place.free apart
            ∙ by_test (same_cid c (accepted_entry t p)) (λ k. rw k)
            (λ k. rw k (s.records_are u c (omega arith)));
      }))

-- in time, a datagram is ignored because it is not heard, or by the source rule
in_parts : (x y z : Option Ignored) → option_or x (option_or y z) ≡ option_or (option_or x y) z
in_parts x y z = grind arith

pub in_time : (room universe : ℕ) (h : List Entry) (t : ℕ) (d : List ℕ) → last_moment h ≤ t
    → ignore_reason room universe h t d ≡ option_or (not_heard universe d)
    (source_refusal room h t (front_packet d).fields.cid (front_packet d).fields.sequence)
in_time room universe h t d time =
    ap (λ b. if b then Some Backwards else option_or (option_map Unreadable (fault_of d))
    (ignored_packet room universe h t (front_packet d))) (le-ltb t (last_moment h) time)
    ∙ in_parts (option_map Unreadable (fault_of d)) (off_reason universe (front_packet d)) _

-- for which history a receiver stands after a packet, and what it answers, by why it is ignored
module _ (r : ReceiverState) (h : List Entry) (t : ℕ) (d : List ℕ) (p : WirePacket)
    (apart : AreDistinct r.records) (s : StandsFor r h) (time : r.latest ≤ t)
    (fault : None ≡ fault_of d) (has : HasPacket d p) (o : Option Ignored)
    (why : o ≡ ignored_packet 4 r.universe r.records t p) where
  ignored_by : ignore_reason 4 r.universe h t d ≡ o
  ignored_by =
      in_time 4 r.universe h t d (omega (arith, s.latest_is, time))
      ∙ ap₂ (λ f q. option_or (option_or (option_map Unreadable f) (off_reason r.universe q))
      (source_refusal 4 h t q.fields.cid q.fields.sequence)) (sym fault) (packet_ends d p has)
      ∙ ap (option_or (off_reason r.universe p)) (refused_by t r.records h apart
      (λ c. s.records_are t c time) 4 p.fields.cid p.fields.sequence
      ∙ sym (refused_by t r.records r.records apart (λ c. refl) 4 p.fields.cid
      p.fields.sequence)) ∙ sym why

  pub answer_by : answer 4 r.universe h t d ≡ option_map_or Err o (Ok (taken_of p))
  answer_by =
      ap₂ (λ o q. option_map_or Err o (Ok (taken_of q))) ignored_by (packet_ends d p has)

  pub heard_by : (new : ReceiverState)
      → StandsFor new (option_map_or (λ _. h) o (accepted_entry t (front_packet d) ∷ h))
      → StandsFor new (history_after 4 r.universe h t d)
  heard_by new = subst (λ o. StandsFor new (option_map_or (λ _. h) o
      (accepted_entry t (front_packet d) ∷ h))) (sym ignored_by)
