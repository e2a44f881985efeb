-- Thousandths as decimals: cue numbers, and seconds from milliseconds.
use Rattle.std.specs.Prelude.{ℕ, ◌/◌, ◌%◌, ◌==◌, if◌then◌else◌, List, [], ◌++◌, codes, decimal}

-- a point and the digits behind it, without zeros at the end; nothing where all are zeros
abbrev pub fraction_text : ℕ → List ℕ
fraction_text thousandths =
    if thousandths == 0 then [] else codes "." ++ decimal (thousandths / 100)
    ++ (if thousandths % 100 == 0 then [] else decimal (thousandths / 10 % 10)
    ++ (if thousandths % 10 == 0 then [] else decimal (thousandths % 10)))

-- a number of thousandths as a decimal: 1500 is `1.5`, and 2000 is `2`
abbrev pub decimal_text : ℕ → List ℕ
decimal_text thousandths = decimal (thousandths / 1000) ++ fraction_text (thousandths % 1000)
