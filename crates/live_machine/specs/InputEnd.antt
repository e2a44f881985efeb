-- When it is told that a night goes on without its input.
use Rattle.std.specs.Prelude.{ℕ, ◌+◌, Bool, true, false, nat_eq, nat_le, if◌then◌else◌}
use Rattle.std.specs.Prelude.{List, Option, Some, None, codes}
use Rattle.std.specs.List.{ends_with}

-- the input ended at a moment, in milliseconds: that is to be told, unless the night ends with it
abbrev pub untold_behind_end : Bool → ℕ → Option ℕ → Option ℕ
untold_behind_end true moment untold = untold
untold_behind_end false moment untold = Some moment

-- a line was kept: behind an `end` the night is over soon, and nothing is told of its input
abbrev pub untold_behind_line : List ℕ → Option ℕ → Option ℕ
untold_behind_line line untold = if ends_with nat_eq line (codes " end\n") then None else untold

-- an end is told of 250 ms behind it: an `end` that was typed before it is kept by then, since the
-- light goes down first
abbrev pub is_end_told : ℕ → Option ℕ → Bool
is_end_told moment None = false
is_end_told moment (Some ended) = nat_le (ended + 250) moment

-- what is told once is told no more
abbrev pub untold_at : ℕ → Option ℕ → Option ℕ
untold_at moment untold = if is_end_told moment untold then None else untold
