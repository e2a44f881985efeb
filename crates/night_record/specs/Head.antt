-- The head of a record, as text.
use Rattle.std.specs.Prelude.{◌≡◌, ◌≤◌, ◌<◌, ℕ, List, ◌++◌, length, All, codes, decimal, nat_le}
use Rattle.std.specs.Prelude.{slice_index, Option, Some, None, if◌then◌else◌}
use Rattle.std.specs.Char.{is_ascii_digit}
use Rattle.hex.specs.Hex.{encode_lower}
use Rattle.uuid.specs.Text.{hyphenated_text, lower}
use Rattle.night_record.specs.declared.head.RecordHead.{RecordHead}

-- a name, where the lines have room for it
abbrev pub name_of : List ℕ → Option (List ℕ)
name_of name = if nat_le (length name) 63 then Some name else None

-- the two lines, without the last LF
abbrev pub head_text : RecordHead → List ℕ
head_text head = codes "! cueplayer record 1: show " ++ encode_lower head.show
    ++ codes "\n! cid " ++ hyphenated_text lower head.cid
    ++ codes ", priority " ++ decimal head.priority
    ++ codes ", base " ++ decimal head.base
    ++ codes ", name " ++ head.name
    ++ codes ", started " ++ head.started

-- a byte of a moment, each digit as a zero
abbrev pub shape : ℕ → ℕ
shape byte = if is_ascii_digit byte then 48 else byte

-- 24 bytes have the form of a moment in UTC, to the millisecond: a digit stands for each zero
abbrev pub HasForm : List ℕ → Type 0
HasForm text = (place : ℕ) → place < 24
    → shape (slice_index text place) ≡ slice_index (codes "0000-00-00T00:00:00.000Z") place

-- the parts are in the ranges that their types give them, and the moment has its form
abbrev pub IsHead : RecordHead → Type 0
IsHead head = ((length head.show ≡ 32) × All (λ byte. byte < 256) head.show)
    × ((length head.cid ≡ 16) × All (λ byte. byte < 256) head.cid)
    × (head.priority < 256) × (head.base < 65536) × (length head.name ≤ 63)
    × (length head.started ≡ 24) × HasForm head.started
