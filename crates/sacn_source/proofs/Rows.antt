-- The worked examples, by evaluation of the definitions.
use Rattle.std.specs.Prelude.{◌≡◌, refl, ℕ, zero, suc, ◌*◌, false, true, List, [], ◌∷◌, map}
use Rattle.std.specs.Prelude.{replicate, Some}
use Rattle.sacn_source.specs.Offering.{answer_of}
use Rattle.sacn_source.specs.Stream.{Offer, due_packet, live_packet}
use Rattle.sacn_source.specs.Timing.{moments_sent}
use Rattle.sacn_source.specs.declared.offered.Offered.TheVariants.{Sent, Lost}

-- a frame offered each 25 ms from 0 on, and so many times more
abbrev each_25_ms : List ℕ → ℕ → List Offer
each_25_ms frame zero = record { moment = 0; frame = frame } ∷ []
each_25_ms frame (suc n) = record { moment = 25 * suc n; frame = frame } ∷ each_25_ms frame n

-- lost_third_send
abbrev at_200 : List ℕ
at_200 = 200 ∷ replicate 511 0

each_is_due : map (λ n. due_packet (each_25_ms at_200 n)) (0 ∷ 1 ∷ 2 ∷ 3 ∷ []) ≡ replicate 4
    (Some (live_packet at_200))
each_is_due = refl

lost_third_send : answer_of false 0 ∷ answer_of false 1 ∷ answer_of true 2 ∷ answer_of false 3 ∷ []
    ≡ Sent 0 ∷ Sent 1 ∷ Lost 2 ∷ Sent 3 ∷ []
lost_third_send = refl

-- keep_alive
keep_alive : moments_sent (each_25_ms (replicate 512 0) 67) ≡ 1675 ∷ 875 ∷ 75 ∷ 50 ∷ 25 ∷ 0 ∷ []
keep_alive = refl
