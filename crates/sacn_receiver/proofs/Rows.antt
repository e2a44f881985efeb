-- The worked examples, by evaluation of the definitions.
use Rattle.std.proofs.Common.{◌≡◌, ℕ, true, false, List, [], ◌∷◌, ◌++◌, length, map, drop}
use Rattle.std.proofs.Common.{replicate, refl, Option, Some, None}
use Rattle.sacn_packet.specs.Wire.{WirePacket}
use Rattle.sacn_packet.specs.Layers.{root_layer, framing_layer, dmp_layer}
use Rattle.sacn_packet.specs.declared.unreadable.Unreadable.TheVariants.{Priority}
use Rattle.sacn_receiver.specs.declared.answer.Ignored.{Ignored}
use Rattle.sacn_receiver.specs.declared.answer.Ignored.TheVariants.{Backwards, Unreadable}
use Rattle.sacn_receiver.specs.declared.answer.Ignored.TheVariants.{OtherUniverse, Preview}
use Rattle.sacn_receiver.specs.declared.answer.Ignored.TheVariants.{AltStart, OutOfSequence}
use Rattle.sacn_receiver.specs.declared.answer.Ignored.TheVariants.{SourcesFull}
use Rattle.sacn_receiver.specs.Source.{Entry, last_moment}
use Rattle.sacn_receiver.specs.Taking.{ignored_packet, ignore_reason, history_after, accepted_entry}
use Rattle.sacn_receiver.specs.Arrivals.{Arrival, heard_all, is_heard}
use Rattle.sacn_receiver.specs.Laws.{accepted_packets}
use Rattle.sacn_receiver.specs.Shown.{live, shown_slot, shown_slots}

-- a packet of a source, with its number, options and first slot
abbrev packet : ℕ → ℕ → ℕ → ℕ → WirePacket
packet source number options level = record {
  fields = record {
    cid = replicate 15 0 ++ source ∷ [];
    name = replicate 64 0;
    priority = 100;
    sync = 0;
    sequence = number;
    options = options;
    universe = 1;
    start = 0;
  };
  slots = level ∷ [];
}

-- the history of one such packet
abbrev after : ℕ → ℕ → List Entry
after number t = accepted_entry t (packet 1 number 0 7) ∷ []

-- the reason at a moment after a history, with room for four
abbrev reason : List Entry → ℕ → WirePacket → Option Ignored
reason h t p = ignored_packet 4 1 h t p

-- wrap_order
wrap_order_254 : reason (after 255 0) 10 (packet 1 254 0 0) ≡ Some OutOfSequence
wrap_order_254 = refl

wrap_order_1 : reason (after 255 0) 20 (packet 1 1 0 0) ≡ None
wrap_order_1 = refl

wrap_order_0 : reason (accepted_entry 20 (packet 1 1 0 0) ∷ after 255 0) 30 (packet 1 0 0 0)
    ≡ Some OutOfSequence
wrap_order_0 = refl

-- sequence_edges
edge_81 : reason (after 100 0) 0 (packet 1 81 0 0) ≡ Some OutOfSequence
edge_81 = refl

edge_80 : reason (after 100 0) 0 (packet 1 80 0 0) ≡ None
edge_80 = refl

edge_236 : reason (after 0 0) 0 (packet 1 236 0 0) ≡ None
edge_236 = refl

edge_237 : reason (after 0 0) 0 (packet 1 237 0 0) ≡ Some OutOfSequence
edge_237 = refl

-- source_loss
shown_3499 : shown_slot (after 10 1000) 3499 0 ≡ 7
shown_3499 = refl

live_3499 : length (live (after 10 1000) 3499) ≡ 1
live_3499 = refl

shown_3500 : shown_slots (after 10 1000) 3500 ≡ replicate 512 0
shown_3500 = refl

live_3500 : length (live (after 10 1000) 3500) ≡ 0
live_3500 = refl

older_3499 : reason (after 10 1000) 3499 (packet 1 9 0 0) ≡ Some OutOfSequence
older_3499 = refl

older_3500 : reason (after 10 1000) 3500 (packet 1 9 0 0) ≡ None
older_3500 = refl

-- four_sources
abbrev four : List Entry
four = accepted_entry 3 (packet 4 0 0 0) ∷ accepted_entry 2 (packet 3 0 0 0) ∷ accepted_entry 1
    (packet 2 0 0 0) ∷ accepted_entry 0 (packet 1 0 0x40 0) ∷ []

fourth_3 : reason (drop 1 four) 3 (packet 4 0 0 0) ≡ None
fourth_3 = refl

fifth_2499 : reason four 2499 (packet 5 0 0 0) ≡ Some SourcesFull
fifth_2499 = refl

fifth_2500 : reason four 2500 (packet 5 0 0 0) ≡ None
fifth_2500 = refl

fifth_termination : reason four 2499 (packet 5 0 0x40 0) ≡ Some SourcesFull
fifth_termination = refl

-- stranger_termination
abbrev ended : List Entry
ended = accepted_entry 5025 (packet 1 1 0x40 9) ∷ []

stranger_ends : reason [] 5025 (packet 1 1 0x40 9) ≡ None
stranger_ends = refl

ended_late : reason ended 5030 (packet 1 0 0 9) ≡ Some OutOfSequence
ended_late = refl

ended_shows : shown_slots ended 5030 ≡ replicate 512 0
ended_shows = refl

again : reason ended 5040 (packet 1 2 0 9) ≡ None
again = refl

again_shows : shown_slots (accepted_entry 5040 (packet 1 2 0 9) ∷ ended) 5040 ≡ 9 ∷ replicate 511 0
again_shows = refl

-- ignored_kinds, with the bytes of a packet of 512 slots
abbrev bytes : ℕ → ℕ → ℕ → ℕ → List ℕ
bytes priority options universe start =
    root_layer 512 (replicate 16 1)
    ++ framing_layer 512 (record {
      cid = replicate 16 1;
      name = replicate 64 0;
      priority =
          priority;
      sync = 0;
      sequence = 0;
      options = options;
      universe = universe;
      start = start;
    })
    ++ dmp_layer 512 start (9 ∷ replicate 511 0)

abbrev kind : ℕ → ℕ → ℕ → ℕ → Option Ignored
kind priority options universe start =
    ignore_reason 4 1 [] 0 (bytes priority options universe start)

kind_plain : kind 100 0 1 0 ≡ None
kind_plain = refl

kind_preview : kind 100 0x80 1 0 ≡ Some Preview
kind_preview = refl

kind_start : kind 100 0 1 0xdd ≡ Some AltStart
kind_start = refl

kind_start_ends : kind 100 0x40 1 0xdd ≡ None
kind_start_ends = refl

kind_universe : kind 100 0 2 0 ≡ Some OtherUniverse
kind_universe = refl

kind_priority : kind 201 0 1 0 ≡ Some (Unreadable Priority)
kind_priority = refl

kind_preview_ends : kind 100 0xc0 1 0 ≡ Some Preview
kind_preview_ends = refl

kind_preview_elsewhere : kind 100 0xc0 2 0 ≡ Some OtherUniverse
kind_preview_elsewhere = refl

-- receiver_backwards
backwards : ignore_reason 4 1 (after 0 1000) 999 (bytes 100 0 1 0) ≡ Some Backwards
backwards = refl

backwards_keeps : last_moment (history_after 4 1 (after 0 1000) 999 (bytes 100 0 1 0)) ≡ 1000
backwards_keeps = refl

-- what comes before the last moment is in no history of a receiver, though the source rule alone
-- accepts it
backwards_heard : map (λ e. e.moment) (history_after 4 1 (after 0 1000) 999 (bytes 100 0 1 0))
    ≡ 1000 ∷ []
backwards_heard = refl

backwards_accepted : map (λ e. e.moment)
    (accepted_packets 4 (accepted_entry 999 (packet 2 0 0 0) ∷ after 0 1000))
    ≡ 999 ∷ 1000 ∷ []
backwards_accepted = refl

-- datagrams of which a receiver of universe 1 hears some: of universes 1, 2, 1 and 1, the last one
-- for no stage
abbrev arrivals : List Arrival
arrivals =
    record { moment = 30; datagram = bytes 100 0x80 1 0 } ∷ record {
      moment = 20;
      datagram =
          bytes 100 0x40 1 0;
    }
    ∷ record { moment = 20; datagram = bytes 100 0 2 0 } ∷ record {
      moment = 10;
      datagram =
          bytes 100 0 1 0;
    } ∷ []

arrivals_heard : map (is_heard 1) arrivals ≡ false ∷ true ∷ false ∷ true ∷ []
arrivals_heard = refl

-- both packets that are heard have number 0, so the second one is ignored
arrivals_accepted : map (λ e. e.moment) (heard_all 4 1 arrivals) ≡ 10 ∷ []
arrivals_accepted = refl

-- lost_third_send: of the numbers 0, 1, 2, 3 the third is lost
abbrev at_200 : ℕ → WirePacket
at_200 number = packet 1 number 0 200

lost_third_taken : reason (accepted_entry 25 (at_200 1) ∷ accepted_entry 0 (at_200 0) ∷ []) 75
    (at_200 3) ≡ None
lost_third_taken = refl

lost_third_shows : shown_slot
    (accepted_entry 75 (at_200 3) ∷ accepted_entry 25 (at_200 1) ∷ accepted_entry 0
    (at_200 0) ∷ []) 75 0 ≡ 200
lost_third_shows = refl

-- two_consoles_highest, two_consoles_priority and silent_console: what a receiver shows of two
-- sources
abbrev two : ℕ → ℕ → List Entry
two priority t = accepted_entry t (packet 1 0 0 128) ∷ record (accepted_entry 0 (packet 2 0 0 64)) {
  priority =
      priority;
} ∷ []

two_consoles_highest : shown_slot (two 100 0) 0 0 ≡ 128
two_consoles_highest = refl

two_consoles_priority : shown_slot (two 150 0) 0 0 ≡ 64
two_consoles_priority = refl

silent_console_2499 : shown_slot (two 150 2400) 2499 0 ≡ 64
silent_console_2499 = refl

silent_console_2500 : shown_slot (two 150 2400) 2500 0 ≡ 128
silent_console_2500 = refl
