-- The stream of each universe of a console: what is offered to it, and what is due at a tick.
-- Histories and lists of offers have the newest entry first.
use Rattle.std.specs.Prelude.{ℕ, ◌-◌, List, [], ◌∷◌, Option, Some, None, length, map, unwrap_or}
use Rattle.show_core.specs.Tables.{Tables}
use Rattle.desk_core.specs.Played.{Call, order, tick, Act, ticks_since_end}
use Rattle.desk_core.specs.Meaning.{frame, universe_numbers}
use Rattle.sacn_source.specs.Identity.{Identity}
use Rattle.sacn_source.specs.Stream.{Offer, Packet, due_packet, last_packet, packets}

-- what a console is opened for: a show, the number of the universe of ordinal 0, and who sends
pub record Production : Type 0 where
  pub show : Tables
  pub base : ℕ
  pub source : Identity

-- the universes, ascending
abbrev pub universes_of : Production → List ℕ
universes_of production = universe_numbers production.show.patch production.base

-- what a tick of this moment after a history offers to a universe: its frame
abbrev pub offer_at : Production → ℕ → List Act → ℕ → Offer
offer_at production universe older moment =
    record {
      moment = moment;
      frame = frame production.show older moment (universe - production.base);
    }

-- a tick before any End makes its offer
abbrev pub offered_by : Call → Option ℕ → Offer → List Offer → List Offer
offered_by tick None offer older = offer ∷ older
offered_by _ _ offer older = older

-- what was offered to a universe in a history
abbrev pub offers_of : Production → ℕ → List Act → List Offer
offers_of production universe [] = []
offers_of production universe (act ∷ older) =
    offered_by act.call (ticks_since_end older) (offer_at production universe older act.moment)
    (offers_of production universe older)

-- how many terminations were sent to each universe: one at each tick after End
abbrev pub terminations_of : List Act → ℕ
terminations_of history = unwrap_or (ticks_since_end history) 0

-- what is due on a universe: a packet, where there is one, and its place in the stream
pub record Due : Type 0 where
  pub universe : ℕ
  pub place : ℕ
  pub packet : Option Packet

-- what the newest offer sends; after End, a termination
abbrev pub packet_due : Option ℕ → List Offer → Option Packet
packet_due None offers = due_packet offers
packet_due (Some ticks) offers = Some last_packet

-- what is due on a universe at an accepted tick of this moment after a history
abbrev pub due_at : Production → List Act → ℕ → ℕ → Due
due_at production older moment universe = record {
  universe = universe;
  place = length (packets (offers_of production universe older) (terminations_of older));
  packet = packet_due (ticks_since_end older) (offer_at production universe older moment
      ∷ offers_of production universe older);
}

-- and on all universes, ascending
abbrev pub dues_at : Production → List Act → ℕ → List Due
dues_at production older moment = map (due_at production older moment) (universes_of production)
