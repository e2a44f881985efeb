-- A pace that takes an offer, or a termination, is that of one more.
use Rattle.std.proofs.Common.{◌≡◌, ℕ, zero, suc, ◌+◌, ◌-◌, ◌≤◌, Bool, true, false, ◌||◌, refl, ap}
use Rattle.std.proofs.Common.{arith, sym, ◌∙◌, List, [], ◌∷◌, ◌++◌, map, length, not, Some, None}
use Rattle.std.specs.Prelude.{nat_lt, if◌then◌else◌, nat_eq, Option}
use Rattle.std.proofs.lemmas.List.{length-append, length-map}
use Rattle.std.proofs.lemmas.Bool.Decides.{nat_tests}
use Rattle.sacn_source.specs.Stream.{Offer, is_change, changed_within, sends, frames_sent, packets}
use Rattle.sacn_source.specs.Stream.{live_packet, last_packet, Packet, due_packet, newest_frame}
use Rattle.sacn_source.specs.Pacing.{Paces, is_due, pace_after, pace_ended}
use Rattle.sacn_source.specs.Kept.{Pace, Lane}
use Rattle.std.specs.Cmp.Lexicographic.{pointwise}
use Rattle.devices.specs.Send.{Send}
use Rattle.sacn_packet.specs.Wire.{Fields, IsData}
use Rattle.sacn_source.specs.Identify.{IsStreamPacket}
use Rattle.sacn_source.specs.Identity.{Identity}
use Rattle.sacn_source.specs.Offering.{Answers, Offers, answer_of, sequence_of}
use Rattle.sacn_source.specs.Pacing as pacing
use Rattle.sacn_source.specs.Stands.{LaneStands}
use Rattle.sacn_source.specs.declared.offered.Offered.{Offered}

-- the counter of repeats, one offer later
counted : (change : Bool) (left n : ℕ) → left ≤ 3 → n ≤ 2
    → (change || nat_lt (3 - n) left) ≡ nat_lt (3 - suc n) (if change then 3 else left - 1)
counted change left n f h = grind (arith, nat_tests)

few_left : (change : Bool) (left : ℕ) → left ≤ 3 → (if change then 3 else left - 1) ≤ 3
few_left change left f = grind arith

none_left : (x : ℕ) → x ≤ 3 → false ≡ nat_lt (3 - 0) x
none_left x h = grind (arith, nat_tests)

repeats_more : (pace : Pace) (offers : List Offer) (o : Offer) → pace.repeats ≤ 3
    → Paces pace offers 0 → (n : ℕ) → n ≤ 3
    → changed_within n (o ∷ offers) ≡ nat_lt (3 - n)
    (if is_change (o ∷ offers) then 3 else pace.repeats - 1)
repeats_more pace offers o few s zero h =
    none_left _ (few_left (is_change (o ∷ offers)) pace.repeats few)
repeats_more pace offers o few s (suc n) h =
    rw (s.repeats_are n (omega arith))
    (counted (is_change (o ∷ offers)) pace.repeats n few (omega arith))

pub due_same : (pace : Pace) (offers : List Offer) (o : Offer) (changed : Bool)
    → changed ≡ is_change (o ∷ offers) → Paces pace offers 0
    → is_due pace changed o.moment ≡ sends (o ∷ offers)
due_same pace offers o changed same s = rw (same, s.last_is, sym (s.repeats_are 3 (omega arith)))

one_more : (b : Bool) (fs : List (List ℕ)) (f : List ℕ)
    → length (map live_packet (if b then fs ++ f ∷ [] else fs)) ≡ (if b then length
    (map live_packet fs) + 1 else length (map live_packet fs))
one_more true fs f = simp (length-map, length-append)
one_more false fs f = refl

-- three repeats at most are left
few_of : (pace : Pace) (offers : List Offer) → Paces pace offers 0 → pace.repeats ≤ 3
few_of pace offers s =
    grind (arith, nat_tests, s.repeats_are 0 (omega arith))

pub takes_offer : (pace : Pace) (offers : List Offer) (o : Offer) (changed : Bool)
    → changed ≡ is_change (o ∷ offers) → Paces pace offers 0
    → Paces (pace_after pace changed o.moment) (o ∷ offers) 0
takes_offer pace offers o changed same s =
    let few = few_of pace offers s in
    let due = due_same pace offers o changed same s in
    record {
      sent_is = rw (due, s.sent_is) (sym
          (one_more (sends (o ∷ offers)) (frames_sent offers) o.frame));
      last_is = rw (due, s.last_is);
      earliest_is = refl;
      ended_is = s.ended_is;
      repeats_are = λ n h. repeats_more pace offers o few s n h
          ∙ ap (λ (b : Bool). nat_lt (3 - n) (if b then 3 else pace.repeats - 1)) (sym same);
    }

pub takes_termination : (pace : Pace) (offers : List Offer) (n : ℕ) → Paces pace offers n
    → Paces (pace_ended pace) offers (suc n)
takes_termination pace offers n s = record {
  sent_is = ap (λ k. k + 1) s.sent_is ∙ sym (length-append (packets offers n) (last_packet ∷ []));
  last_is = s.last_is;
  earliest_is = s.earliest_is;
  ended_is = omega (arith, s.ended_is);
  repeats_are = s.repeats_are;
}

-- ---- a lane that takes an offer or a termination

-- an offer is a change where it has other slots than the newest frame, or is the first
changed_by : (offers : List Offer) (pace : Pace) (moment : ℕ) (frame : List ℕ) (differs : Bool)
    → Paces pace offers 0 → differs ≡ not (pointwise nat_eq frame (newest_frame offers))
    → pacing.pace_changes pace differs
    ≡ is_change (record { moment = moment; frame = frame } ∷ offers)
changed_by [] pace moment frame differs s d = grind (arith, nat_tests, s.earliest_is)
changed_by (p ∷ older) pace moment frame differs s d = grind (arith, nat_tests, s.earliest_is)

-- an offer to a lane, by whether its packet had other slots
module _ (who : Identity) (lane : Lane) (offers : List Offer) (o : Offer) (differs : Bool)
    (s : LaneStands who lane offers 0)
    (says : (fields : Fields) (old : List ℕ) → IsData lane.packet fields old
    → differs ≡ not (pointwise nat_eq o.frame old)) where
  changed : pacing.pace_changes lane.pace differs ≡ is_change (o ∷ offers)
  changed = changed_by offers lane.pace o.moment o.frame differs s.paces (says _ _ s.packet.2)

  pub paces_on : (pace : Pace)
      → pace ≡ pacing.pace_after lane.pace (pacing.pace_changes lane.pace differs) o.moment
      → Paces pace (o ∷ offers) 0
  paces_on pace e = rw e (takes_offer lane.pace offers o _ changed s.paces)

  pub due_as : (is_due b : Bool)
      → is_due ≡ pacing.is_due lane.pace (pacing.pace_changes lane.pace differs) o.moment
      → is_due ≡ b
      → due_packet (o ∷ offers) ≡ (if b then Some (live_packet o.frame) else None)
  due_as is_due b e is = ap (λ (d : Bool). if d then Some (live_packet o.frame) else None)
      (sym (due_same lane.pace offers o _ changed s.paces) ∙ sym e ∙ is)

-- the packet that was sent, at the place that the definitions give
pub sent_packet : (who : Identity) (u place at : ℕ) (p : Packet) (bytes : List ℕ) (answer : Offered)
    (before after : List Send) → place ≡ at → IsStreamPacket who u place p bytes
    → ((failed : Bool) × (answer ≡ answer_of failed place)
    × (after ≡ before ++ record { universe = u; bytes = bytes; failed = failed } ∷ []))
    → Offers who u at (Some p) answer before after
sent_packet who u place at p bytes answer before after same is sent =
    rw (← same) (bytes, sent.0, is, sent.1, sent.2)

pub answer_at : (place at : ℕ) (p : Packet) (answer : Offered) → place ≡ at
    → ((failed : Bool) × (answer ≡ answer_of failed place)) → Answers at (Some p) answer
answer_at place at p answer same a = rw (← same) a

-- two answers at one place have one number
pub alike : (place : ℕ) (p : Option Packet) (one other : Offered) → Answers place p one
    → Answers place p other → sequence_of one ≡ sequence_of other
alike place None one other a b = rw (a, b) refl
alike place (Some p) one other a b = grind (arith, a.1, b.1)
