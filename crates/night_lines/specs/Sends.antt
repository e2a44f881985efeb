-- What is told of what a night sends.
use Rattle.std.specs.Prelude.{ℕ, ◌+◌, List, [], ◌∷◌, ◌++◌, codes, decimal, flat_map, length}
use Rattle.std.specs.Prelude.{nat_le, if◌then◌else◌, Option, Some, None}
use Rattle.arrayvec.specs.declared.array_string.ArrayString.{ArrayString}
use Rattle.uuid.specs.Text.{hyphenated_text, lower}
use Rattle.night_lines.specs.Targets.{targets_text}
use Rattle.night_lines.specs.declared.sends.Transmission.{Transmission}

-- what stands in front of so many numbers
abbrev pub universe_word : List ℕ → List ℕ
universe_word [] = codes "no universe, since no dimmer is patched,"
universe_word (ordinal ∷ []) = codes "universe"
universe_word (first ∷ second ∷ rest) = codes "universes"

-- the number of the universe of an ordinal
abbrev pub number_text : ℕ → ℕ → List ℕ
number_text base ordinal = codes " " ++ decimal (base + ordinal)

-- the universes that are sent
abbrev pub universes_text : ℕ → List ℕ → List ℕ
universes_text base ordinals = universe_word ordinals ++ flat_map (number_text base) ordinals

-- which universes are sent where, with which priority, and by whom
abbrev pub whole_line : Transmission → List ℕ
whole_line sends =
    codes "sends: " ++ universes_text sends.base sends.ordinals.now.items
    ++ targets_text sends.targets.now ++ codes ", priority " ++ decimal sends.priority
    ++ codes ", CID " ++ hyphenated_text lower sends.cid ++ codes ", name " ++ sends.name.now
    ++ codes "\n"

-- the line of what a night sends, where the name is that of a source
abbrev pub sends_line : Transmission → Option (List ℕ)
sends_line sends = if nat_le (length sends.name.now) 63 then Some (whole_line sends) else None

abbrev pub sends_seen : ArrayString 400 → List ℕ
sends_seen line = line.bytes
