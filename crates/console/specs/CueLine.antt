-- What is printed of a move to a cue.
use Rattle.std.specs.Prelude.{ℕ, ◌/◌, ◌%◌, ◌==◌, List, [], ◌++◌, codes, decimal}
use Rattle.std.specs.Prelude.{if◌then◌else◌}
use Rattle.console.specs.Texts.{moment_line}

-- the places behind the whole of a cue number, from its thousandths, without zeros at their end
abbrev pub places_text : ℕ → List ℕ
places_text thousandths =
    if thousandths == 0 then [] else codes "." ++ decimal (thousandths / 100)
    ++ (if thousandths % 100 == 0 then [] else decimal (thousandths / 10 % 10)
    ++ (if thousandths % 10 == 0 then [] else decimal (thousandths % 10)))

-- a cue number, from thousandths
abbrev pub cue_text : ℕ → List ℕ
cue_text number = decimal (number / 1000) ++ places_text (number % 1000)

-- the line of a move: its moment, and the cue that is current from then on
abbrev pub cue_line : ℕ → ℕ → List ℕ
cue_line moment cue = moment_line moment (codes "cue " ++ cue_text cue)
