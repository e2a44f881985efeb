-- The bytes of an input as lines. Lists of lines have the newest first.
use Rattle.std.specs.Prelude.{◌≡◌, ℕ, List, [], ◌∷◌, ◌++◌, ◌==◌, if◌then◌else◌, fold, length}
use Rattle.ascii_text.specs.Text.{lines_of}

-- the lines that LF ended, and the bytes behind the last LF
pub record Cut : Type 0 where
  pub lines : List (List ℕ)
  pub rest : List ℕ

-- one byte more
abbrev pub with_byte : Cut → ℕ → Cut
with_byte cut byte =
    if byte == 10 then record { lines = cut.rest ∷ cut.lines; rest = [] }
    else record { lines = cut.lines; rest = cut.rest ++ byte ∷ [] }

abbrev pub no_bytes : Cut
no_bytes = record { lines = []; rest = [] }

abbrev pub cut_of : List ℕ → Cut
cut_of bytes = fold with_byte no_bytes bytes

-- a whole input: bytes behind the last LF are one more line
abbrev pub with_last_lf : List ℕ → List ℕ
with_last_lf bytes = if length (cut_of bytes).rest == 0 then bytes else bytes ++ 10 ∷ []

-- lines in their order
abbrev pub in_order : List (List ℕ) → List (List ℕ)
in_order [] = []
in_order (newest ∷ older) = in_order older ++ newest ∷ []

-- the lines of a whole input, in their order, are its lines
abbrev pub LinesAreOfInput : List ℕ → Type 0
LinesAreOfInput bytes = in_order (cut_of (with_last_lf bytes)).lines ≡ lines_of bytes
