-- The lines of bytes that come in pieces, against all that came.
use Rattle.std.specs.Prelude.{◌≡◌, ◌+◌, ◌<◌, ◌^◌, ℕ, List, [], ◌++◌, length, take, drop}
use Rattle.std.specs.Prelude.{Bool, ◌&&◌, if◌then◌else◌, nat_le}
use Rattle.std.specs.List.{slice_range}
use Rattle.live_machine.specs.declared.input.Came.{Came}
use Rattle.live_machine.specs.declared.input.Came.TheVariants.{Bytes}
use Rattle.ascii_text.specs.Lines.{cut_of}
use Rattle.night_record.specs.WholeLines.{front_of, line_fronts, whole_length, whole_lines}
use Rattle.night_record.specs.declared.lines.NightLines.{NightLines}

-- the bytes that came and were not looked at
abbrev pub unseen_bytes : NightLines → List ℕ
unseen_bytes lines = slice_range lines.block lines.seen lines.came

-- what was not given in lines, as far as it is kept: at most 4,096 bytes
abbrev pub rest_in : NightLines → List ℕ
rest_in lines = take 4096 (lines.line.items ++ unseen_bytes lines)

-- so many bytes were given in lines, their LFs included
abbrev pub bytes_given : NightLines → ℕ
bytes_given lines = lines.taken

-- these bytes came, and these lines were given of them: the lines of what was looked at, each once
-- and in order. Of a line whose LF has not come, what was looked at is kept
pub record StandsFor (lines : NightLines) (text : List ℕ) (given : List (List ℕ)) : Type 0 where
  pub looked_at : List ℕ
  pub came : text ≡ looked_at ++ unseen_bytes lines
  pub gave : given ≡ line_fronts looked_at
  pub begun : lines.line.items ≡ front_of (cut_of looked_at).rest
  pub place : lines.place + lines.seen ≡ length looked_at
  pub taken : bytes_given lines ≡ whole_length looked_at

-- whatever came before, these bytes came behind it, and no line was given of them yet
abbrev pub StandsForMore : NightLines → List ℕ → NightLines → Type 0
StandsForMore old more new = (text : List ℕ) (given : List (List ℕ)) → length text < 2 ^ 64
    → StandsFor old text given → StandsFor new (text ++ more) given

-- the bytes that a wait for what is typed brought, at the front of a block
abbrev pub typed_bytes : Came → List ℕ → List ℕ
typed_bytes (Bytes count) block = take count block
typed_bytes _ block = []

-- what counts of the bytes that came, when it is looked for more: all of them; but of a file its
-- whole lines, since a part of a line may be cut off, where the line that began has at most 200
-- bytes
abbrev pub part_to_keep : Bool → List ℕ → List ℕ
part_to_keep is_file text =
    if is_file && nat_le (length (cut_of text).rest) 200 then whole_lines text else text

-- whatever came before, that of it counts, and the same lines were given
abbrev pub KeepsPart : Bool → NightLines → NightLines → Type 0
KeepsPart is_file old new = (text : List ℕ) (given : List (List ℕ)) → length text < 2 ^ 64
    → StandsFor old text given → StandsFor new (part_to_keep is_file text) given

-- whatever came before, that of it counts, and the next bytes are to be those that stand behind so
-- many bytes of the record
abbrev pub AsksBehind : Bool → NightLines → NightLines → ℕ → Type 0
AsksBehind is_file old new place = (text : List ℕ) (given : List (List ℕ))
    → length text < 2 ^ 64 → StandsFor old text given
    → StandsFor new (part_to_keep is_file text) given
    × (place ≡ length (part_to_keep is_file text))
