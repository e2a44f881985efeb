-- What a sender keeps, against the offers and terminations of each of its universes.
use Rattle.std.specs.Prelude.{ℕ, zero, suc, ◌==◌, List, map, find, replicate, Option, Some, None}
use Rattle.std.specs.Option.{option_map_or}
use Rattle.sacn_packet.specs.Wire.{IsData}
use Rattle.sacn_source.specs.Identify.{packet_fields}
use Rattle.sacn_source.specs.Identity.{Identity}
use Rattle.sacn_source.specs.Kept.{Lane}
use Rattle.sacn_source.specs.Pacing.{Paces}
use Rattle.sacn_source.specs.Stream.{Offer, newest_frame}

-- the slots of the newest packet of these offers and then n terminations; zeros before the first
abbrev pub slots_after : List Offer → ℕ → List ℕ
slots_after offers zero = newest_frame offers
slots_after offers (suc n) = replicate 512 0

-- the lane of a universe has seen these offers, the newest first, and then n terminations: its
-- packet is the source's, with the newest slots under some number
pub record LaneStands (who : Identity) (lane : Lane) (offers : List Offer) (n : ℕ) : Type 0 where
  pub paces : Paces lane.pace offers n
  pub packet : (sequence : ℕ) × (options : ℕ)
      × IsData lane.packet (packet_fields who lane.universe sequence options) (slots_after offers n)

-- the lane of a universe, where there is one
abbrev pub lane_of : List Lane → ℕ → Option Lane
lane_of lanes universe = find (λ lane. lane.universe == universe) lanes

-- the universe's lane has seen these offers and terminations
abbrev pub StandsAt : Identity → Option Lane → List Offer → ℕ → Type 0
StandsAt who None offers n = ⊥
StandsAt who (Some lane) offers n = LaneStands who lane offers n

-- the sender of a source stands for these offers on a universe, the newest first, and then for n
-- terminations
abbrev pub StandsFor : Identity → List Lane → ℕ → List Offer → ℕ → Type 0
StandsFor who lanes universe offers n = StandsAt who (lane_of lanes universe) offers n

-- the universes of a sender, in the order in which it was given them
abbrev pub lane_universes : List Lane → List ℕ
lane_universes lanes = map (λ lane. lane.universe) lanes

-- the earliest moment that may be offered next on a universe; 0 where nothing was
abbrev pub earliest_of : List Lane → ℕ → ℕ
earliest_of lanes universe = option_map_or (λ lane. lane.pace.earliest) (lane_of lanes universe) 0

-- the terminations that were sent on a universe
abbrev pub ended_of : List Lane → ℕ → ℕ
ended_of lanes universe = option_map_or (λ lane. lane.pace.ended) (lane_of lanes universe) 0
