-- Plays of a few lines of a small show, and traffic: the premises of the laws are met there, and
-- what they say is evaluated. Slot 1 is at 51 at the tick of 1,000 ms, and at 102 at that of
-- 2,000 ms.
use Rattle.std.proofs.Common.{◌≡◌, ℕ, zero, suc, ◌<◌, ◌≤◌, List, [], ◌∷◌, Some, None}
use Rattle.std.proofs.Common.{replicate, refl, arith, ◌∙◌, sym, subst, false, inl, ap, ◌⊎◌}
use Rattle.std.proofs.Common.{◌++◌}
use Rattle.std.specs.Prelude.{codes, slice_index}
use Rattle.desk_core.specs.declared.command.Command.TheVariants.{Go}
use Rattle.desk_core.specs.declared.instruction.Instruction.TheVariants.{Plain}
use Rattle.desk_core.specs.Meaning.{dark}
use Rattle.desk_core.proofs.Small.{small, cues, numbers, first_at, frame_1000}
use Rattle.desk_core.proofs.Small.{frame_2000, no_move}
use Rattle.devices.specs.Send.{Send}
use Rattle.sacn_source.specs.declared.offered.Offered.TheVariants.{Sent}
use Rattle.sacn_source.specs.Identity.{Identity}
use Rattle.sacn_source.specs.Offering.{answer_of}
use Rattle.sacn_source.specs.Stream.{Packet, live_packet}
use Rattle.sacn_receiver.specs.Shown.{merged_slot}
use Rattle.console.specs.Offering.{AreOffered, none, sent}
use Rattle.console.specs.Streams.{Production, Due}
use Rattle.console.specs.declared.call.Call.TheVariants.{Order, Tick}
use Rattle.console.specs.declared.reading.Reading.TheVariants.{At}
use Rattle.console.specs.Spelling.{reading_of}
use Rattle.cmd_play.specs.Run.{CarriedLine, IsRun, dues_after, history_of}
use Rattle.wire_world.specs.Datagrams.{packet_bytes}
use Rattle.wire_world.proofs.Wire.{is_data, IsSendable}
use Rattle.cueplayer.specs.Plays.{Play, IsPlay, ArePlays, stream_for, frame_for}
use Rattle.cueplayer.specs.Traffic.{Traffic, TracedArrival, datagrams_in, receipts, receipts_of}
use Rattle.cueplayer.specs.Traffic.{IsInWindow, slots_at}
use Rattle.cueplayer.specs.Laws.{HearsOne, HearsAll, AreSettled, CidsDiffer, lights, IsOneOf}
use Rattle.sacn_receiver.specs.Replies.{slots_line}
use Rattle.cmd_listen.specs.Listening.{listen_text, replies}
use Rattle.cueplayer.proofs.Listening.{listen_law}
use Rattle.cueplayer.proofs.Showing.{headline, silence_dark, window_law, merge_law}

-- the small show on universe 1, by a source with this byte in each place of its CID
abbrev of_source : ℕ → ℕ → Production
of_source byte priority = record {
  show = small;
  base = 1;
  source = record { cid = replicate 16 byte; name = []; priority = priority };
}

go_read : reading_of (codes "0 go") ≡ At 0 (Order (Plain Go))
go_read = refl

tick_read : reading_of (codes "1000 tick") ≡ At 1000 Tick
tick_read = refl

later_read : reading_of (codes "2000 tick") ≡ At 2000 Tick
later_read = refl

module _ (byte priority : ℕ) (low : priority ≤ 200) where
  abbrev source : Identity
  source = (of_source byte priority).source

  -- a packet with one slot that is not 0, and a send of it as packet k of universe 1
  abbrev packet : ℕ → Packet
  packet level = live_packet (first_at level)

  abbrev bytes : ℕ → ℕ → List ℕ
  bytes k level = packet_bytes source 1 k (packet level)

  abbrev send : ℕ → ℕ → Send
  send k level = record { universe = 1; bytes = bytes k level; failed = false }

  abbrev due : ℕ → ℕ → Due
  due k level = record { universe = 1; place = k; packet = Some (packet level) }

  sendable : (level : ℕ) → IsSendable source 1 (packet level)
  sendable level = record {
    who = record { cid_size = refl; name_size = refl; priority_range = low };
    size = refl;
    low = omega arith;
    high = omega arith;
  }

  offers : (k level : ℕ) → AreOffered source (due k level ∷ []) (send k level ∷ [])
      ((1, answer_of false k) ∷ [])
  offers k level = sent (due k level) (packet level) (send k level) [] [] []
      (record {
        packet_is = refl;
        universe_is = refl;
        bytes_are = is_data source 1 k (packet level) (sendable level);
      }) none

  -- what is due at the lines `0 go`, `1000 tick`, `2000 tick`
  due_none : dues_after (of_source byte priority) [] (reading_of (codes "0 go")) ≡ []
  due_none = simp (no_move, cues) refl

  due_first : dues_after (of_source byte priority) (history_of small (codes "0 go" ∷ []))
      (reading_of (codes "1000 tick")) ≡ due 0 51 ∷ []
  due_first = simp (no_move, cues, numbers, frame_1000) refl

  due_second : dues_after (of_source byte priority)
      (history_of small (codes "1000 tick" ∷ codes "0 go" ∷ [])) (reading_of (codes "2000 tick"))
      ≡ due 1 102 ∷ []
  due_second = simp (no_move, cues, numbers, frame_1000, frame_2000) refl

  -- the run of the first two lines, and that of all three
  abbrev short_run : List CarriedLine
  short_run =
      record { line = codes "1000 tick"; sends = send 0 51 ∷ []; offers = (1, Sent 0) ∷ [] }
      ∷ record { line = codes "0 go"; sends = []; offers = [] } ∷ []

  is_short_run : IsRun (of_source byte priority) short_run
  is_short_run = (
    subst (λ ds. AreOffered source ds (send 0 51 ∷ []) ((1, Sent 0) ∷ [])) (sym due_first)
        (offers 0 51),
    (subst (λ ds. AreOffered source ds [] []) (sym due_none) none, tt),
  )

  abbrev whole_run : List CarriedLine
  whole_run =
      record { line = codes "2000 tick"; sends = send 1 102 ∷ []; offers = (1, Sent 1) ∷ [] }
      ∷ short_run

  is_whole_run : IsRun (of_source byte priority) whole_run
  is_whole_run = (
    subst (λ ds. AreOffered source ds (send 1 102 ∷ []) ((1, Sent 1) ∷ [])) (sym due_second)
        (offers 1 102),
    is_short_run,
  )

  abbrev short : Play
  short = record {
    production = of_source byte priority;
    lines = codes "1000 tick" ∷ codes "0 go" ∷ [];
    offered = send 0 51 ∷ [];
  }

  short_is_play : IsPlay short
  short_is_play =
      record { run = short_run; lines_are = refl; is_run = is_short_run; offered_are = refl }

  abbrev whole : Play
  whole = record {
    production = of_source byte priority;
    lines = codes "2000 tick" ∷ codes "1000 tick" ∷ codes "0 go" ∷ [];
    offered = send 0 51 ∷ send 1 102 ∷ [];
  }

  whole_is_play : IsPlay whole
  whole_is_play =
      record { run = whole_run; lines_are = refl; is_run = is_whole_run; offered_are = refl }

  -- send k, with this level at slot 1, at a moment
  abbrev arrival_at : {Origin : Type 0} → ℕ → Origin → ℕ → ℕ → TracedArrival Origin
  arrival_at moment origin k level = record {
    arrival = record { moment = moment; datagram = bytes k level };
    origin = Some origin;
  }

-- ---- one play: send 1 arrives twice, then send 0, late, and then a datagram that is no packet

abbrev play : Play
play = whole 7 100 (omega arith)

abbrev traffic : Traffic ℕ
traffic =
    record { arrival = record { moment = 7013; datagram = 1 ∷ 2 ∷ [] }; origin = None }
    ∷ arrival_at 7 100 (omega arith) 7012 0 0 51 ∷ arrival_at 7 100 (omega arith) 7011 1 1 102
    ∷ arrival_at 7 100 (omega arith) 7010 1 1 102 ∷ []

hears : (t : ℕ) → 7013 ≤ t → HearsOne play 1 t traffic
hears t l = record {
  origins = (refl, (refl, (refl, (refl, tt))));
  in_order = ((omega arith, (omega arith, (omega arith, (omega arith, tt)))), l);
  window = (omega arith, omega arith, (omega arith, omega arith, tt));
}

-- until 9,509 ms the slots are what the show means at the tick of 2,000 ms, though send 0 came last
headline_met : slots_at 1 traffic 9509 ≡ first_at 102
headline_met =
    headline play 1 9509 traffic (whole_is_play 7 100 (omega arith)) (hears 9509 (omega arith))
    (refl, omega arith) ∙ simp (no_move, cues, frame_2000) refl

-- from 9,512 ms on nothing is recent, not even send 0, and all slots are 0
silence_met : slots_at 1 traffic 9512 ≡ dark
silence_met = silence_dark play 1 9512 traffic (whole_is_play 7 100 (omega arith))
    (hears 9512 (omega arith)) refl

-- where send 1 never arrived the headline is silent, and the window law is not
abbrev only : Traffic ℕ
only = arrival_at 7 100 (omega arith) 7010 0 0 51 ∷ []

window_met : IsOneOf 8000 (slots_at 1 only 8000) (stream_for play 1) (receipts only)
    ⊎ (slots_at 1 only 8000 ≡ dark)
window_met = window_law play 1 8000 only (whole_is_play 7 100 (omega arith)) (record {
  origins = (refl, tt);
  in_order = ((omega arith, tt), omega arith);
  window = tt;
})

-- a `listen` that received send 0, two other bytes, and send 1
abbrev received : Traffic ℕ
received =
    arrival_at 7 100 (omega arith) 0 1 1 102
    ∷ record { arrival = record { moment = 0; datagram = 1 ∷ 2 ∷ [] }; origin = None }
    ∷ arrival_at 7 100 (omega arith) 0 0 0 51 ∷ []

hears_received : HearsOne play 1 0 received
hears_received = record {
  origins = (refl, (refl, (refl, tt)));
  in_order = ((omega arith, (omega arith, (omega arith, tt))), omega arith);
  window = (omega arith, omega arith, tt);
}

listen_met : listen_text 1 (datagrams_in received)
    ≡ replies 1 (datagrams_in received) ++ slots_line (first_at 102)
listen_met =
    let means : frame_for play 1 ≡ first_at 102 = simp (no_move, cues, frame_2000) refl in
    listen_law play 1 received (whole_is_play 7 100 (omega arith)) hears_received
    (refl, omega arith)
    ∙ ap (λ slots. replies 1 (datagrams_in received) ++ slots_line slots) means

-- ---- two plays on one universe: one that carried out all three lines, at priority 100, and one
-- that carried out the first two, at any priority

module _ (priority : ℕ) (low : priority ≤ 200) where
  abbrev two : List Play
  two = whole 7 100 (omega arith) ∷ short 8 priority low ∷ []

  abbrev both : Traffic (ℕ × ℕ)
  both =
      arrival_at 8 priority low 7011 (1, 0) 0 51
      ∷ arrival_at 7 100 (omega arith) 7010 (0, 1) 1 102 ∷ []

  two_play : ArePlays two
  two_play zero l = whole_is_play 7 100 (omega arith)
  two_play (suc zero) l = short_is_play 8 priority low
  two_play (suc (suc i)) l = absurd (omega (arith, l))

  apart : CidsDiffer two
  apart zero zero l m f = cc
  apart zero (suc zero) l m f = refl
  apart (suc zero) zero l m f = refl
  apart (suc zero) (suc zero) l m f = cc
  apart zero (suc (suc j)) l m f = absurd (omega (arith, m))
  apart (suc zero) (suc (suc j)) l m f = absurd (omega (arith, m))
  apart (suc (suc i)) j l m f = absurd (omega (arith, l))

  window : (i : ℕ) → i < 2 → IsInWindow (receipts_of i both)
  window zero l = tt
  window (suc zero) l = tt
  window (suc (suc i)) l = absurd (omega (arith, l))

  hears_both : HearsAll two 1 9509 both
  hears_both = record {
    apart = apart;
    few = omega arith;
    origins = ((omega arith, refl), ((omega arith, refl), tt));
    in_order = ((omega arith, (omega arith, tt)), omega arith);
    window = window;
  }

  settled : AreSettled two 1 both 9509
  settled zero l some = inl (refl, omega arith)
  settled (suc zero) l some = inl (refl, omega arith)
  settled (suc (suc i)) l some = absurd (omega (arith, l))

  both_lit : lights two 1 both 9509
      ≡ record { priority = 100; slots = first_at 102 }
      ∷ record { priority = priority; slots = first_at 51 } ∷ []
  both_lit = simp (no_move, cues, frame_1000, frame_2000) refl

  merge_met : slice_index (slots_at 1 both 9509) 0
      ≡ merged_slot (record { priority = 100; slots = first_at 102 }
      ∷ record { priority = priority; slots = first_at 51 } ∷ []) 0
  merge_met = merge_law two 1 9509 both two_play hears_both settled 0 (omega arith)
      ∙ ap (λ l. merged_slot l 0) both_lit

-- at equal priorities the greater level is shown, and else that of the greater priority
priorities : (slice_index (slots_at 1 (both 100 (omega arith)) 9509) 0 ≡ 102)
    × (slice_index (slots_at 1 (both 150 (omega arith)) 9509) 0 ≡ 51)
priorities = (merge_met 100 (omega arith), merge_met 150 (omega arith))
