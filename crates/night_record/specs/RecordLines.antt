-- The numbers of the lines that are given of a record.
use Rattle.std.specs.Prelude.{ℕ, ◌+◌, min, Option, Some, None}
use Rattle.arrayvec.specs.declared.array_vec.ArrayVec.{ArrayVec}

-- the number of the newest line, behind what was given
abbrev pub number_behind : ℕ → Option (ArrayVec ℕ 201 (Unit {0})) → ℕ
number_behind number (Some line) = min (number + 1) 18446744073709551615
number_behind number None = number
