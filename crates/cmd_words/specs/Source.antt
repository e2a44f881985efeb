-- Who sends.
use Rattle.std.specs.Prelude.{ℕ, nat_le, Bool, ◌&&◌, List, [], ◌∷◌, ◌++◌, take, filter}
use Rattle.std.specs.Prelude.{Option, Some, None, codes}

-- the name of the source: the one that the night has, or the program's
abbrev pub source_name : Option (List ℕ) → List ℕ
source_name (Some name) = name
source_name None = codes "cueplayer"

-- a character of ASCII that is seen: no control character, and no blank
abbrev pub is_graphic : ℕ → Bool
is_graphic byte = nat_le 33 byte && nat_le byte 126

abbrev pub behind_program : List ℕ → List ℕ
behind_program [] = codes "cueplayer"
behind_program (byte ∷ machine) = codes "cueplayer " ++ byte ∷ machine

-- the name of a night's source on the machine of this name: at most 63 bytes (E1.31-2018, source
-- name)
abbrev pub name_on : List ℕ → List ℕ
name_on machine = behind_program (take 53 (filter is_graphic machine))
