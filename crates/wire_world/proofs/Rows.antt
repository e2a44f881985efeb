-- Rows of the rehearsal, evaluated over a small show, and that the laws' premises are met there.
use Rattle.std.proofs.Common.{◌≡◌, ℕ, zero, suc, ◌<◌, ◌≤◌, List, [], ◌∷◌}
use Rattle.std.proofs.Common.{take, replicate, length, refl, arith, inl, ap, ◌∙◌, ◌⊎◌}
use Rattle.std.specs.Prelude.{IsFalse, ◌==◌, slice_index}
use Rattle.desk_core.specs.declared.command.Command.TheVariants.{Go, Sub, End}
use Rattle.desk_core.specs.declared.instruction.Instruction.TheVariants.{Plain}
use Rattle.desk_core.specs.declared.answer.Ticked.TheVariants.{Live, Ending}
use Rattle.desk_core.specs.declared.answer.Refused.TheVariants as refused
use Rattle.desk_core.specs.Meaning.{dark}
use Rattle.sacn_source.specs.declared.offered.Offered.TheVariants.{Sent}
use Rattle.sacn_receiver.specs.Source.{Entry}
use Rattle.sacn_receiver.specs.Shown.{merged_slot, shown_slot}
use Rattle.console.specs.Streams.{Production}
use Rattle.wire_world.specs.declared.happening.Happening.{Happening}
use Rattle.wire_world.specs.declared.happening.Occurrence.{Occurrence}
use Rattle.wire_world.specs.declared.happening.Occurrence.TheVariants.{Order, Tick, Deliver, Show}
use Rattle.wire_world.specs.declared.reply.Skip.TheVariants as skip
use Rattle.wire_world.specs.declared.reply.Reply.TheVariants.{Done, Refused, Ticked, Skipped}
use Rattle.wire_world.specs.World.{World, IsConsole, IsWorld}
use Rattle.wire_world.specs.Happened.{packets_sent}
use Rattle.wire_world.specs.Replies.{last_event_moment, events_done, reply_to}
use Rattle.wire_world.specs.Delivery.{deliveries, IsInWindow}
use Rattle.wire_world.specs.Laws.{CidsDiffer, HearsOne, HearsAll, IsFresh, AreSettled, slots_at}
use Rattle.wire_world.specs.Laws.{lights, IsOneOf}
use Rattle.wire_world.proofs.Shown.{headline, silence_dark, window_law, merge_law, history}
use Rattle.desk_core.proofs.Small.{small, cues, subs, numbers, based, first_at, frame_1000}
use Rattle.desk_core.proofs.Small.{frame_2000, frame_full, frame_half}
use Rattle.desk_core.proofs.Small.{no_move, after_first, after_second}

abbrev at : ℕ → Occurrence → Happening
at t x = record { moment = t; what = x }

-- a console with this byte in each place of its CID
abbrev console_of : ℕ → ℕ → Production
console_of byte priority = record {
  show = small;
  base = 1;
  source = record { cid = replicate 16 byte; name = []; priority = priority };
}

console_is : (byte priority : ℕ) → priority ≤ 200 → IsConsole (console_of byte priority)
console_is byte priority low = record {
  source_in = λ universe is.
      record { cid_size = refl; name_size = refl; priority_range = low };
  base_in = based;
}

abbrev w : World
w = record { consoles = console_of 7 100 ∷ []; receivers = 1 ∷ []; strays = [] }

-- rehearse_basic, without its deliveries
abbrev script : List Happening
script =
    at 0 (Order 0 (Plain Go)) ∷ at 1000 (Tick 0) ∷ at 2000 (Tick 0) ∷ at 2022 (Tick 0)
    ∷ at 2030 (Order 0 (Plain Go)) ∷ at 2030 (Order 0 (Plain Go)) ∷ at 2031 (Deliver 0 0 1 2) ∷ []

line_3 : reply_to w (events_done w (take 0 script)) (at 0 (Order 0 (Plain Go))) ≡ Done
line_3 = simp (no_move, after_first, cues) refl

line_4 : reply_to w (events_done w (take 1 script)) (at 1000 (Tick 0))
    ≡ Ticked Live ((1, Sent 0) ∷ [])
line_4 = simp (no_move, after_first, cues, numbers) refl

line_6 : reply_to w (events_done w (take 2 script)) (at 2000 (Tick 0))
    ≡ Ticked Live ((1, Sent 1) ∷ [])
line_6 = simp (no_move, after_first, cues, numbers, frame_1000, frame_2000) refl

line_11 : reply_to w (events_done w (take 3 script)) (at 2022 (Tick 0)) ≡ Refused refused.TooSoon
line_11 = simp (no_move, after_first, cues) refl

line_12 : reply_to w (events_done w (take 4 script)) (at 2030 (Order 0 (Plain Go))) ≡ Done
line_12 = simp (no_move, after_first, cues) refl

line_13 : reply_to w (events_done w (take 5 script)) (at 2030 (Order 0 (Plain Go))) ≡ Refused refused.AtEnd
line_13 = simp (no_move, after_first, after_second, cues) refl

line_14 : reply_to w (events_done w (take 6 script)) (at 2031 (Deliver 0 0 1 2))
    ≡ Skipped skip.NotSent
line_14 =
    simp (no_move, after_first, after_second, cues, numbers, frame_1000, frame_2000) refl

skips : (reply_to w [] (at 0 (Order 1 (Plain Go))) ≡ Skipped skip.NoConsole)
    × (reply_to w [] (at 0 (Show 1)) ≡ Skipped skip.NoReceiver)
    × (reply_to w (events_done w (at 5 (Tick 0) ∷ [])) (at 4 (Tick 0)) ≡ Skipped skip.Backwards)
    × (reply_to w (events_done w (at 5 (Tick 0) ∷ [])) (at 281474976710656 (Tick 0))
    ≡ Skipped skip.TooLarge)
skips = (refl, refl, refl, refl)

-- End, and the numbers of its terminations
ending : reply_to w (events_done w
    (at 0 (Order 0 (Plain Go)) ∷ at 1000 (Tick 0) ∷ at 1000 (Order 0 (Plain End)) ∷ []))
    (at 1023 (Tick 0)) ≡ Ticked (Ending 1) ((1, Sent 1) ∷ [])
ending = simp (no_move, after_first, cues, numbers) refl

-- with the deliveries: what the receiver shows, by what was delivered (`from_one` joins it to
-- the bytes)
abbrev with_deliveries : List Happening
with_deliveries =
    at 0 (Order 0 (Plain Go)) ∷ at 1000 (Tick 0) ∷ at 1000 (Deliver 0 0 1 0) ∷ at 2000 (Tick 0)
    ∷ at 2010 (Deliver 0 0 1 1) ∷ at 2011 (Deliver 0 0 1 1) ∷ []

-- what it has accepted after so many of these
abbrev so_far : ℕ → List Entry
so_far n =
    history (console_of 7 100).source (deliveries w 0 0 (events_done w (take n with_deliveries)))

line_7 : shown_slot (so_far 4) 2000 0 ≡ 51
line_7 = simp (no_move, after_first, cues, numbers, frame_1000) refl

line_9 : shown_slot (so_far 5) 2010 0 ≡ 102
line_9 = simp (no_move, after_first, cues, numbers, frame_1000, frame_2000) refl

line_10 : length (so_far 6) ≡ 2
line_10 = simp (no_move, after_first, cues, numbers, frame_1000, frame_2000) refl

silence : (shown_slot (so_far 6) 4509 0 ≡ 102)
    × (shown_slot (so_far 6) 4510 0 ≡ 0)
silence = (
  simp (no_move, after_first, cues, numbers, frame_1000, frame_2000) refl,
  simp (no_move, after_first, cues, numbers, frame_1000, frame_2000) refl,
)

-- ---- the premises of the headline and of the window law are met

world : IsWorld w
world zero l = console_is 7 100 (omega arith)
world (suc i) l = absurd (omega (arith, l))

alone : (j : ℕ) → j < 1 → IsFalse (j == 0) → ⊥
alone zero l f = cc
alone (suc j) l f = omega (arith, l)

-- after all deliveries, until 4509, whatever is shown is what the show means: slots 1:102
hears : HearsOne w 0 0 (events_done w with_deliveries)
hears = record {
  alone = λ j l f. absurd (alone j l f);
  no_stray = simp (no_move, after_first, cues, numbers, frame_1000, frame_2000)
      (tt, (tt, (tt, (tt, (tt, (tt, tt))))));
  window = simp (no_move, after_first, cues, numbers, frame_1000, frame_2000)
      (omega arith, omega arith, (omega arith, omega arith, tt));
}

fresh : IsFresh w 0 0 (events_done w with_deliveries) 4509
fresh = simp (no_move, after_first, cues, numbers, frame_1000, frame_2000) (refl, omega arith)

by_then : (t : ℕ) → 2011 ≤ t → last_event_moment (events_done w with_deliveries) ≤ t
by_then t l = simp (no_move, after_first, cues, numbers, frame_1000, frame_2000) l

headline_met : slots_at w 0 (events_done w with_deliveries) 4509 ≡ first_at 102
headline_met =
    headline w with_deliveries 0 0 4509 world (by_then 4509 (omega arith)) hears fresh
    ∙ simp (no_move, after_first, cues, numbers, frame_1000, frame_2000) refl

-- from 4511 on nothing is recent, not even the repeat, and all slots are 0
silence_met : slots_at w 0 (events_done w with_deliveries) 4511 ≡ dark
silence_met =
    silence_dark w with_deliveries 0 0 4511 world (by_then 4511 (omega arith)) hears
    (simp (no_move, after_first, cues, numbers, frame_1000, frame_2000) refl)

-- before the second packet comes the window law speaks, and the headline does not: the packet
-- that came is not the newest that was sent
hears_first : HearsOne w 0 0 (events_done w (take 4 with_deliveries))
hears_first = record {
  alone = λ j l f. absurd (alone j l f);
  no_stray = simp (no_move, after_first, cues, numbers) (tt, (tt, (tt, (tt, tt))));
  window = simp (no_move, after_first, cues, numbers) tt;
}

window_met : IsOneOf 2009 (slots_at w 0 (events_done w (take 4 with_deliveries)) 2009)
    (packets_sent w 0 1 (events_done w (take 4 with_deliveries)))
    (deliveries w 0 0 (events_done w (take 4 with_deliveries)))
    ⊎ (slots_at w 0 (events_done w (take 4 with_deliveries)) 2009 ≡ dark)
window_met =
    window_law w (take 4 with_deliveries) 0 0 2009 world
    (simp (no_move, after_first, cues, numbers) (omega arith)) hears_first

-- two consoles on one universe, with CIDs and priorities of their own
module _ (priority : ℕ) (low : priority ≤ 200) where
  abbrev two : World
  two = record {
    consoles = console_of 7 100 ∷ console_of 8 priority ∷ [];
    receivers = 1 ∷ [];
    strays = [];
  }

  -- two_consoles_highest, up to its line 9
  abbrev both_sent : List Happening
  both_sent =
      at 0 (Order 0 (Plain (Sub 1 255))) ∷ at 0 (Order 1 (Plain (Sub 1 128))) ∷ at 0 (Tick 0) ∷ at 0 (Tick 1)
      ∷ at 0 (Deliver 0 0 1 0) ∷ at 0 (Deliver 0 1 1 0) ∷ []

  two_world : IsWorld two
  two_world zero l = console_is 7 100 (omega arith)
  two_world (suc zero) l = console_is 8 priority low
  two_world (suc (suc i)) l = absurd (omega (arith, l))

  apart : CidsDiffer two
  apart zero zero l m f = cc
  apart zero (suc zero) l m f = refl
  apart (suc zero) zero l m f = refl
  apart (suc zero) (suc zero) l m f = cc
  apart zero (suc (suc j)) l m f = absurd (omega (arith, m))
  apart (suc zero) (suc (suc j)) l m f = absurd (omega (arith, m))
  apart (suc (suc i)) j l m f = absurd (omega (arith, l))

  window : (i : ℕ) → i < 2 → IsInWindow (deliveries two 0 i (events_done two both_sent))
  window zero l = simp (subs, numbers) tt
  window (suc zero) l = simp (subs, numbers) tt
  window (suc (suc i)) l = absurd (omega (arith, l))

  hears_both : HearsAll two 0 (events_done two both_sent)
  hears_both = record {
    apart = apart;
    few = omega arith;
    no_stray = simp (subs, numbers) (tt, (tt, (tt, (tt, (tt, (tt, tt))))));
    window = window;
  }

  -- both are fresh until 2499
  settled : AreSettled two 0 (events_done two both_sent) 2499
  settled zero l some = inl (simp (subs, numbers) (refl, omega arith))
  settled (suc zero) l some = inl (simp (subs, numbers) (refl, omega arith))
  settled (suc (suc i)) l some = absurd (omega (arith, l))

  both_lit : lights two 0 (events_done two both_sent) 2499
      ≡ record { priority = 100; slots = first_at 128 }
      ∷ record { priority = priority; slots = first_at 64 } ∷ []
  both_lit = simp (subs, numbers, frame_full, frame_half) refl

  merge_met : slice_index (slots_at two 0 (events_done two both_sent) 2499) 0
      ≡ merged_slot (record { priority = 100; slots = first_at 128 }
      ∷ record { priority = priority; slots = first_at 64 } ∷ []) 0
  merge_met =
      merge_law two both_sent 0 2499 two_world
      (simp (subs, numbers) (omega arith)) hears_both settled 0 (omega arith)
      ∙ ap (λ l. merged_slot l 0) both_lit

-- two_consoles_highest and two_consoles_priority: with equal priorities the greater level is
-- shown, and else that of the greater priority
priorities : (merged_slot (record { priority = 100; slots = first_at 128 }
    ∷ record { priority = 100; slots = first_at 64 } ∷ []) 0 ≡ 128)
    × (merged_slot (record { priority = 100; slots = first_at 128 }
    ∷ record { priority = 150; slots = first_at 64 } ∷ []) 0 ≡ 64)
priorities = (refl, refl)
