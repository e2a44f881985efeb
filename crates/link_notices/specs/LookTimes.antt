-- When the network of a night is looked at.
use Rattle.std.specs.Prelude.{ℕ, ◌-◌, ◌/◌, Bool, true, nat_le, nat_lt}
use Rattle.std.specs.Prelude.{Option, Some, None, if◌then◌else◌}

-- the time of a look is the milliseconds of what a clock shows in nanoseconds, where they fit in 64
-- bits
abbrev pub look_time : ℕ → Option ℕ
look_time passed = if nat_lt (passed / 1000000) 18446744073709551616
    then Some (passed / 1000000) else None

-- a look is due: none was made so far, or half a second has passed since the last
abbrev pub is_look_due : Option ℕ → ℕ → Bool
is_look_due None now = true
is_look_due (Some last) now = nat_le 500 (now - last)

-- the time of the look that is due, where one is
abbrev pub due_time : Option ℕ → ℕ → Option ℕ
due_time last now = if is_look_due last now then Some now else None
