-- The stream of a universe: each packet has 512 slots, a call adds at most one, and the newest is
-- the frame of the latest tick.
use Rattle.std.proofs.Common.{◌≡◌, ℕ, ◌-◌, Bool, true, false, not, refl, sym, arith, List, [], ◌∷◌}
use Rattle.std.proofs.Common.{◌++◌, map, length, Option, Some, None, append-nil, add-one, zero, suc}
use Rattle.std.proofs.lemmas.Bool.Decides.{nat_tests}
use Rattle.std.proofs.lemmas.List.{map-append}
use Rattle.std.proofs.lemmas.List.Elements.{All-nil, All-cons}
use Rattle.std.specs.Prelude.{if◌then◌else◌, slice_get, nat_eq, unwrap_or, All, IfSome}
use Rattle.std.specs.Option.{option_to_list}
use Rattle.desk_core.specs.declared.instruction.Instruction.{Instruction}
use Rattle.desk_core.specs.Played.{order, tick, tick_at, Act, ticks_since_end, ended_by}
use Rattle.desk_core.specs.Meaning.{dark, frame, latest_frame}
use Rattle.desk_core.proofs.FrameSlots.{frame_full}
use Rattle.sacn_source.specs.Stream.{Packet, sends, packets, live_packet, newest_frame}
use Rattle.sacn_source.proofs.Streams.{OffersFull, HoldsFull, packets_full, newest_is}
use Rattle.console.specs.Streams.{Production, due_at, offer_at, offered_by, offers_of, packet_due}
use Rattle.console.specs.Streams.{terminations_of}

get_front : {A : Type 0} (xs ys : List A) (k : ℕ) (x : A) → slice_get xs k ≡ Some x
    → slice_get (xs ++ ys) k ≡ Some x
get_front [] ys k x e = cc
get_front (y ∷ xs) ys zero x e = e
get_front (y ∷ xs) ys (suc k) x e = get_front xs ys k x e

-- an instruction leaves the streams
pub ended_same : (c : Instruction) (n : Option ℕ)
    → unwrap_or (ended_by (order c) n) 0 ≡ unwrap_or n 0
ended_same c n = grind arith

module _ (c : Production) (u : ℕ) where
  abbrev pub stream : List Act → List Packet
  stream h = packets (offers_of c u h) (terminations_of h)

  offers_full : (h : List Act) → All OffersFull (offers_of c u h)
  offers_full [] = All-nil OffersFull
  offers_full (a ∷ h) = grind (
    arith,
    offers_full h,
    All-cons OffersFull (offer_at c u h a.moment) (offers_of c u h)
        (frame_full c.show h a.moment (u - c.base)) (offers_full h),
  )

  pub stream_full : (h : List Act) → All HoldsFull (stream h)
  stream_full h = packets_full (offers_of c u h) (terminations_of h) (offers_full h)

  -- a packet that is due has 512 slots
  pub due_full : (h : List Act) (m : ℕ) → IfSome (due_at c h m u).packet HoldsFull
  due_full h m = grind (arith, frame_full c.show h m (u - c.base))

  -- one tick more leaves the packets, and adds what is due
  pub stream_ticked : (h : List Act) (m : ℕ)
      → stream (tick_at m ∷ h) ≡ stream h ++ option_to_list (due_at c h m u).packet
  stream_ticked h m = go (ticks_since_end h) where
    go : (n : Option ℕ) → packets (offered_by tick n (offer_at c u h m) (offers_of c u h))
        (unwrap_or (ended_by tick n) 0) ≡ packets (offers_of c u h) (unwrap_or n 0)
        ++ option_to_list (packet_due n (offer_at c u h m ∷ offers_of c u h))
    go None = live (sends (offer_at c u h m ∷ offers_of c u h)) _ _ where
      live : (b : Bool) (fs : List (List ℕ)) (f : List ℕ)
          → map live_packet (if b then fs ++ f ∷ [] else fs)
          ≡ map live_packet fs ++ option_to_list (if b then Some (live_packet f) else None)
      live true fs f = map-append live_packet fs (f ∷ [])
      live false fs f = sym (append-nil _)
    go (Some n) = rw add-one refl

  -- one call more leaves them, and adds at most one
  pub packet_stays : (a : Act) (h : List Act) (k : ℕ) (p : Packet)
      → slice_get (stream h) k ≡ Some p → slice_get (stream (a ∷ h)) k ≡ Some p
  packet_stays a h k p at =
      elim a.call as (λ call. slice_get (stream (record { moment = a.moment; call = call } ∷ h)) k
      ≡ Some p) [
        | tick ↦ rw (stream_ticked h a.moment) (get_front (stream h) _ k p at)
        | order o ↦ rw (ended_same o (ticks_since_end h)) at
      ]

  -- the frame of the latest tick is the newest offer's, or dark after End
  pub latest : (h : List Act) → latest_frame c.show h (u - c.base)
      ≡ (if nat_eq (terminations_of h) 0 then newest_frame (offers_of c u h) else dark)
  unfolding frame
  latest [] = refl
  latest (a ∷ h) = grind (arith, nat_tests, latest h)

  -- the newest packet shows the frame of the latest tick, and ends the stream where that came after
  -- End
  pub newest_means : (h : List Act) (k : ℕ) (p : Packet) → slice_get (stream h) k ≡ Some p
      → suc k ≡ length (stream h) → (p.slots ≡ latest_frame c.show h (u - c.base))
      × (p.ends ≡ not (nat_eq (terminations_of h) 0))
  newest_means h k p e l =
      let is = newest_is (offers_of c u h) (terminations_of h) k p e l in
      (grind (arith, is, latest h), grind (arith, is))
