-- What was typed, as lines. Bytes and lines have the oldest first.
use Rattle.std.specs.Prelude.{ℕ, Bool, ◌&&◌, List, [], ◌∷◌, ◌++◌, ◌==◌, nat_le, if◌then◌else◌}
use Rattle.std.specs.Prelude.{fold, length, take}
use Rattle.ascii_text.specs.Text.{words_of}

-- the lines that LF ended, without those that say nothing, and the bytes behind the last LF. A
-- line may have 200 bytes: of a longer one 201 are looked at, so that it is seen to be too long
pub record TypedLines : Type 0 where
  pub lines : List (List ℕ)
  pub rest : List ℕ

-- a line of at most 200 bytes that has no words
abbrev pub says_nothing : List ℕ → Bool
says_nothing line = nat_le (length line) 200 && length (words_of line) == 0

-- one line more, where it says something
abbrev pub with_line : List (List ℕ) → List ℕ → List (List ℕ)
with_line lines line = if says_nothing line then lines else lines ++ line ∷ []

-- one byte more
abbrev pub with_typed_byte : TypedLines → ℕ → TypedLines
with_typed_byte typed byte =
    if byte == 10 then record { lines = with_line typed.lines typed.rest; rest = [] }
    else record { lines = typed.lines; rest = take 201 (typed.rest ++ byte ∷ []) }

abbrev pub nothing_typed : TypedLines
nothing_typed = record { lines = []; rest = [] }

abbrev pub typed_of : List ℕ → TypedLines
typed_of bytes = fold with_typed_byte nothing_typed bytes
