-- What a record over memory keeps, as contracts see it.
use Rattle.std.specs.Prelude.{ℕ, List, map, take}
use Rattle.arrayvec.specs.declared.array_vec.ArrayVec.{ArrayVec}
use Rattle.cmd_live.specs.declared.memory.standing_lines.StandingLines.{StandingLines}

-- the lines that stand there and were not given
abbrev pub standing_lines : StandingLines → List (ArrayVec ℕ 201 (Unit {0}))
standing_lines lines = take lines.standing lines.lines.now

-- the bytes of each
abbrev pub bytes_of_each : List (ArrayVec ℕ 201 (Unit {0})) → List (List ℕ)
bytes_of_each lines = map (λ line. line.items) lines
