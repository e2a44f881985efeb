-- What is typed while a night follows a main.
use Rattle.std.specs.Prelude.{ℕ, List, [], ◌∷◌, ◌||◌, Option, Some, None, if◌then◌else◌, codes}
use Rattle.ascii_text.specs.Forms.{same_word}
use Rattle.night_record.specs.declared.asked.Asked.{Asked}
use Rattle.night_record.specs.declared.asked.Asked.TheVariants.{Take, Where, Help, Other}

-- a line of one word, in small or large letters
abbrev pub asked_by_word : List ℕ → Asked
asked_by_word word = if same_word word (codes "take") then Take
    else (if same_word word (codes "where") then Where
    else (if same_word word (codes "help") || same_word word (codes "?") then Help else Other))

-- the words of a line: more than one are refused
abbrev pub asked_by : List (List ℕ) → Option Asked
asked_by [] = None
asked_by (word ∷ []) = Some (asked_by_word word)
asked_by (word ∷ next ∷ more) = Some Other
