-- What a sender takes next.
use Rattle.std.specs.Prelude.{ℕ, ◌≡◌, ◌≤◌, List, Contains}
use Rattle.sacn_source.specs.Kept.{Lane}
use Rattle.sacn_source.specs.Stands.{earliest_of, ended_of, lane_universes}

-- each universe of a sender may be offered a frame from this moment on
abbrev pub TakesFrom : List Lane → ℕ → Type 0
TakesFrom sender moment = (universe : ℕ) → Contains (lane_universes sender) universe
    → (earliest_of sender universe ≤ moment) × (ended_of sender universe ≡ 0)
