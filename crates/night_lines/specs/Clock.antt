-- How messages name a moment of a night.
use Rattle.std.specs.Prelude.{ℕ, ◌/◌, ◌%◌, List, ◌++◌, codes, decimal}

-- a number below 100 in two digits
abbrev pub two_digits : ℕ → List ℕ
two_digits number = decimal (number / 10) ++ decimal (number % 10)

-- a moment in milliseconds: hours, minutes and seconds, as 1:02:03
abbrev pub clock_text : ℕ → List ℕ
clock_text moment =
    decimal (moment / 3600000) ++ codes ":" ++ two_digits (moment / 60000 % 60) ++ codes ":"
    ++ two_digits (moment / 1000 % 60)
