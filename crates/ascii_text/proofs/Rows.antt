-- The worked examples, evaluated.
use Rattle.std.specs.Prelude.{◌≡◌, [], ◌∷◌, ◌++◌, codes, Some, None, refl}
use Rattle.ascii_text.specs.Text.{lines_of, words_of, numbered_from}
use Rattle.ascii_text.specs.Forms.{number_of, moment_of, time_of, cue_number_of, level_of}

times : (time_of (codes "99:59.99") ≡ Some 5999990)
    × (time_of (codes ".5") ≡ Some 500)
    × (time_of (codes "100:00") ≡ None)
    × (time_of (codes "6000") ≡ None)
times = (refl, refl, refl, refl)

cue_numbers : (cue_number_of (codes "9999.999") ≡ Some 9999999) × (cue_number_of (codes "0") ≡ None)
cue_numbers = (refl, refl)

levels : (level_of (codes "1") ≡ Some 3)
    × (level_of (codes "99") ≡ Some 252)
    × (level_of (codes "HF") ≡ Some 15)
    × (level_of (codes "ff") ≡ Some 255)
    × (level_of (codes "H") ≡ None)
levels = (refl, refl, refl, refl, refl)

-- form comes before range
forms : (cue_number_of (codes "10000") ≡ None)
    × (number_of (codes "0") ≡ Some 0)
    × (number_of (codes "1000000000") ≡ None)
    × (level_of (codes "101") ≡ None)
    × (time_of (codes "1:60") ≡ None)
forms = (refl, refl, refl, refl, refl)

-- zeros in front count as digits
zeros : (number_of (codes "000000001") ≡ Some 1)
    × (number_of (codes "0000000001") ≡ None)
    × (cue_number_of (codes "0000000001.5") ≡ None)
    × (time_of (codes "0000000001:00") ≡ None)
    × (moment_of (codes "0000000000000001") ≡ None)
zeros = (refl, refl, refl, refl, refl)

-- a byte order mark, VT, FF and NUL belong to words
words : words_of (239 ∷ 187 ∷ 191 ∷ 65 ∷ 11 ∷ 12 ∷ 0 ∷ codes " 2!3")
    ≡ (239 ∷ 187 ∷ 191 ∷ 65 ∷ 11 ∷ 12 ∷ 0 ∷ []) ∷ codes "2" ∷ []
words = refl

lines : numbered_from 1 (lines_of (codes "A" ++ 13 ∷ 10 ∷ 10 ∷ codes "B"))
    ≡ (1, codes "A" ++ 13 ∷ []) ∷ (2, []) ∷ (3, codes "B") ∷ []
lines = refl
