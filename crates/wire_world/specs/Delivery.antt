-- What reached one receiver from one console. Lists have the newest first.
use Rattle.std.specs.Prelude.{ℕ, ◌+◌, ◌≤◌, ◌==◌, ◌&&◌, List, [], ◌∷◌, nat_lt, max}
use Rattle.std.specs.Prelude.{if◌then◌else◌, Option, Some, None, slice_get}
use Rattle.sacn_source.specs.Stream.{Packet}
use Rattle.wire_world.specs.declared.happening.Happening.{Happening}
use Rattle.wire_world.specs.declared.happening.Occurrence.{Occurrence}
use Rattle.wire_world.specs.declared.happening.Occurrence.TheVariants.{Deliver}
use Rattle.wire_world.specs.World.{World, universe_at}
use Rattle.wire_world.specs.Happened.{packets_sent}

-- packet k was handed in at a moment
pub record Delivery : Type 0 where
  pub k : ℕ
  pub moment : ℕ
  pub packet : Packet

-- one delivery more, where there is a packet
abbrev pub delivered_more : ℕ → ℕ → Option Packet → List Delivery → List Delivery
delivered_more k moment None older = older
delivered_more k moment (Some packet) older =
    record { k = k; moment = moment; packet = packet } ∷ older

-- one more, where an event hands receiver r a packet of its universe that console i has sent
abbrev pub delivered_by : World → ℕ → ℕ → List Happening → ℕ → Occurrence → List Delivery
    → List Delivery
delivered_by w r i past moment (Deliver q j universe k) older =
    if (q == r && universe == universe_at w r) && j == i
    then delivered_more k moment (slice_get (packets_sent w i (universe_at w r) past) k) older
    else older
delivered_by w r i past moment _ older = older

-- the packets of its universe that were handed to receiver r from console i, in any order and any
-- number of times
abbrev pub deliveries : World → ℕ → ℕ → List Happening → List Delivery
deliveries w r i [] = []
deliveries w r i (e ∷ past) = delivered_by w r i past e.moment e.what (deliveries w r i past)

-- the newest packet that came: the greatest k
abbrev pub newest_of : List Delivery → ℕ
newest_of [] = 0
newest_of (d ∷ older) = max d.k (newest_of older)

-- THE WINDOW of losses, repeats and reorderings: each packet but the first is at most 19 behind
-- and 217 ahead of the newest that came before it
abbrev pub IsInWindow : List Delivery → Type 0
IsInWindow [] = Unit {0}
IsInWindow (d ∷ []) = Unit {0}
IsInWindow (d ∷ e ∷ older) =
    (newest_of (e ∷ older) ≤ d.k + 19) × (d.k ≤ newest_of (e ∷ older) + 217)
    × IsInWindow (e ∷ older)

-- when the newest that came first came
abbrev pub arrival : List Delivery → ℕ
arrival [] = 0
arrival (d ∷ []) = d.moment
arrival (d ∷ e ∷ older) =
    if nat_lt (newest_of (e ∷ older)) d.k then d.moment else arrival (e ∷ older)
