-- The moments of a night by the machine's clock.
use Rattle.std.specs.Prelude.{◌≤◌, ◌+◌, ◌*◌, ◌/◌, ◌<◌, ℕ, min}

-- the moment of a night, in milliseconds, where so many nanoseconds have passed since its clock was
-- set to a moment; moments end at 2^64 - 1, which is in 584 million years
abbrev pub moment_at : ℕ → ℕ → ℕ
moment_at start passed = min (start + passed / 1000000) 18446744073709551615

-- the clock of a night is right: it never falls, it is never ahead of the time that has passed, and
-- less than a millisecond behind it
pub record IsClockRight (start earlier later : ℕ) : Type 0 where
  pub never_falls : moment_at start earlier ≤ moment_at start later
  pub never_ahead : moment_at start later * 1000000 ≤ start * 1000000 + later
  pub never_late : moment_at start later < 18446744073709551615
      → start * 1000000 + later < moment_at start later * 1000000 + 1000000
