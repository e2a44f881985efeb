-- Laws over the offers of one universe alone, the newest first, and over the answers to them.
use Rattle.std.specs.Prelude.{◌≡◌, ℕ, ◌+◌, ◌≤◌, true, false, List, [], ◌∷◌, ◌++◌, Option}
use Rattle.sacn_source.specs.declared.offered.Offered.{Offered}
use Rattle.sacn_source.specs.Offering.{Answers, sequence_of}
use Rattle.sacn_source.specs.Stream.{Offer, Packet}
use Rattle.sacn_source.specs.Stream.{changed_within, last_sent, live_packet, packets, sends}
use Rattle.sacn_source.specs.Timing.{AreCloser, AreWithin, moments_sent}

-- where offers are at most 200 ms apart, one packet is less than 1,000 ms after the one before
abbrev pub PacketsAreClose : Type 0
PacketsAreClose =
    (offers : List Offer) → AreWithin 200 offers → AreCloser 1000 (moments_sent offers)

-- a packet that is no change and none of its three repeats is at least 800 ms after the one before
abbrev pub KeepAlivesAreLate : Type 0
KeepAlivesAreLate =
    (o : Offer) (older : List Offer) → sends (o ∷ older) ≡ true
    → changed_within 4 (o ∷ older) ≡ false → last_sent older + 800 ≤ o.moment

-- the newest packet has the frame that was offered last, although quiet offers send nothing
abbrev pub NewestPacketIsNewestFrame : Type 0
NewestPacketIsNewestFrame =
    (o : Offer) (older : List Offer)
    → (front : List Packet) × (packets (o ∷ older) 0 ≡ front ++ live_packet o.frame ∷ [])

-- two answers at one place of a stream differ at most in Sent and Lost
abbrev pub AnswersAreAlike : Type 0
AnswersAreAlike =
    (place : ℕ) (packet : Option Packet) (one other : Offered)
    → Answers place packet one → Answers place packet other → sequence_of one ≡ sequence_of other
