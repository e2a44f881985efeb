-- What a sender keeps of its universes.
use Rattle.std.specs.Prelude.{ℕ, List}

-- what decides when the next packet of a universe is due
pub record Pace : Type 0 where
  -- how many packets there were, terminations and lost ones too
  pub sent : ℕ
  -- how often the newest frame is still to be repeated
  pub repeats : ℕ
  -- the moment of the last packet, terminations aside
  pub last_sent : ℕ
  -- the earliest moment of the next offer: one more than that of the last
  pub earliest : ℕ
  -- how many terminations there were
  pub ended : ℕ

-- a universe, its newest packet or the one that is sent next but for its number, and its pace
pub record Lane : Type 0 where
  pub universe : ℕ
  pub packet : List ℕ
  pub pace : Pace
