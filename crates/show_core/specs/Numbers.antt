-- The ranges of the numbers of a show: a desk's room is fixed, and a number beyond it is refused.
use Rattle.std.specs.Prelude.{ℕ, ◌≤◌, Bool, ◌&&◌, nat_le, List, All}

-- from 1 to the most there are
abbrev pub is_within : ℕ → ℕ → Bool
is_within most n = nat_le 1 n && nat_le n most

abbrev pub is_channel : ℕ → Bool
is_channel = is_within 4096

abbrev pub is_dimmer : ℕ → Bool
is_dimmer = is_within 8192

abbrev pub is_sub : ℕ → Bool
is_sub = is_within 100

abbrev pub is_group : ℕ → Bool
is_group = is_within 500

-- a cue number, in thousandths
abbrev pub is_cue_number : ℕ → Bool
is_cue_number = is_within 9999999

-- a time, a delay or a follow-on time, in milliseconds
abbrev pub is_time : ℕ → Bool
is_time t = nat_le t 5999990

-- levels of channels: a byte times a byte, so that full is 65025
abbrev pub AreLevels : List ℕ → Type 0
AreLevels levels = All (λ level. level ≤ 65025) levels
