-- The fields of a line of one of the system's tables.
use Rattle.std.specs.Prelude.{ℕ, Bool, true, false, List, [], ◌∷◌, ◌==◌, filter, take, drop, codes}
use Rattle.std.specs.Prelude.{bytes_eq, slice_index_or, Option, Some, None, if◌then◌else◌}
use Rattle.std.specs.List.{slice_split}
use Rattle.std.specs.Char.{is_ascii_hexdigit}
use Rattle.std.specs.Str.Parse.{digits_value}
use Rattle.ascii_text.specs.Forms.{is_run}

-- what stands between fields
abbrev pub is_blank : ℕ → Bool
is_blank byte = byte == 32

-- a field has a byte
abbrev pub is_field : List ℕ → Bool
is_field [] = false
is_field (byte ∷ bytes) = true

-- the parts between blanks that are not empty
abbrev pub fields_of : List ℕ → List (List ℕ)
fields_of line = filter is_field (slice_split is_blank line)

-- the field at this place, from 0; empty where there is none
abbrev pub field : ℕ → List ℕ → List ℕ
field place line = slice_index_or (fields_of line) place []

-- the number that 1 to 8 hex digits spell
abbrev pub hex_number : List ℕ → Option ℕ
hex_number digits = if is_run is_ascii_hexdigit 1 8 digits then Some (digits_value 16 digits) else
    None

-- the number of flags: hex digits behind `0x`
abbrev pub flags_of : List ℕ → Option ℕ
flags_of field = if bytes_eq (take 2 field) (codes "0x") then hex_number (drop 2 field) else None
