-- What is left of a text while its lines are read.
use Rattle.std.specs.Prelude.{ℕ, List, Option, slice_range}
use Rattle.std.specs.Io.KnownBytes.{prepend_known}
use Rattle.byte_reading.specs.declared.ahead.Ahead.{Ahead}
use Rattle.byte_reading.specs.declared.short_lines.ShortLines.{ShortLines}

-- the bytes that were read of it, and not given yet
abbrev pub ahead_bytes : Ahead → List ℕ
ahead_bytes ahead = slice_range ahead.block ahead.given ahead.came

-- the source that the text is read from
abbrev pub source : {B : Type 0} → ShortLines B → B
source lines = lines.blocks

-- the bytes that are left of the text, where it is known which the source has left
abbrev pub bytes_left : {B : Type 0} → (B → Option (List ℕ)) → ShortLines B → Option (List ℕ)
bytes_left left lines = prepend_known (ahead_bytes lines.ahead) (left lines.blocks)
