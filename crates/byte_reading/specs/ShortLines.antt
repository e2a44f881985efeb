-- The lines of a text that is read block by block, each cut to 160 characters.
use Rattle.std.specs.Prelude.{◌≡◌, ℕ, ◌-◌, ◌^◌, ◌<◌, ◌⊎◌, ◌&&◌, List, [], ◌∷◌, ◌++◌, length, map}
use Rattle.std.specs.Prelude.{take, ⊤, Option, Some, None, nat_le, if◌then◌else◌}
use Rattle.std.specs.List.{before_first, after_first}
use Rattle.std.specs.Io.KnownBytes.{Consumes, IsAtEnd, Keeps}
use Rattle.ascii_text.specs.Text.{is_newline, lines_of}

-- what stands for a byte: itself where it is printable ASCII, and a blank otherwise
abbrev pub shown_byte : ℕ → ℕ
shown_byte byte = if nat_le 32 byte && nat_le byte 126 then byte else 32

-- a line as it is given: at most its first 160 bytes, each as it is shown
abbrev pub short_line : List ℕ → List ℕ
short_line line = take 160 (map shown_byte line)

-- all lines of a text, each as it is given
abbrev pub short_lines : List ℕ → List (List ℕ)
short_lines text = map short_line (lines_of text)

-- the next byte of what is left of a text, or none where nothing is left
abbrev pub GivesByte : Option (List ℕ) → Option (List ℕ) → Option ℕ → Type 0
GivesByte old new (Some byte) = Consumes old new (byte ∷ [])
GivesByte old new None = Keeps old new × IsAtEnd old

-- the next line of what is left of a text, which is not nothing: what stands before the first LF;
-- what stands behind that LF is left then
abbrev pub GivesLine : Option (List ℕ) → Option (List ℕ) → List ℕ → Type 0
GivesLine None new line = ⊤
GivesLine (Some text) new line = (0 < length text)
    × (line ≡ short_line (before_first is_newline text))
    × (new ≡ Some (after_first is_newline text))

-- no line: nothing is left of a text, or a read of it failed. (No machine has a text of 2^64 - 1
-- bytes.)
abbrev pub GivesNone : Option (List ℕ) → Option (List ℕ) → Type 0 → Type 0
GivesNone None new may_fail = ⊤
GivesNone (Some text) new may_fail = length text < 2 ^ 64 - 1
    → ((text ≡ []) × (new ≡ Some [])) ⊎ may_fail

-- these lines are given one by one until nothing is left of a text
abbrev pub AreGiven : List ℕ → List (List ℕ) → Type 0
AreGiven text [] = text ≡ []
AreGiven text (line ∷ lines) =
    (rest : List ℕ) × GivesLine (Some text) (Some rest) line × AreGiven rest lines

-- ALL LINES. The lines that are given one by one until nothing is left are all lines of the text
abbrev pub AllLinesLaw : Type 0
AllLinesLaw = (text : List ℕ) (lines : List (List ℕ))
    → AreGiven text lines → lines ≡ short_lines text

-- these lines are read of a text: all of its lines, or those before a read that fails
abbrev pub AreRead : Option (List ℕ) → Type 0 → List (List ℕ) → Type 0
AreRead None may_fail lines = ⊤
AreRead (Some text) may_fail lines = length text < 2 ^ 64 - 1
    → (lost : List (List ℕ)) × (short_lines text ≡ lines ++ lost) × ((lost ≡ []) ⊎ may_fail)
