-- What a line spells.
use Rattle.std.specs.Prelude.{ℕ, List, [], ◌∷◌, Option, Some, None, Result, Ok, Err}
use Rattle.ascii_text.specs.Forms.{moment_of}
use Rattle.ascii_text.specs.Text.{words_of}
use Rattle.hex.specs.Hex.{decode_of}
use Rattle.hex.specs.declared.error.FromHexError.{FromHexError}

-- a line without words, one of no form, or a moment and a datagram: of a moment alone, which is the
-- clock's, the empty one
pub data WatchLine : Type 0 where
  blank : WatchLine
  malformed : WatchLine
  at : ℕ → List ℕ → WatchLine

-- the bytes that an even number of hex digits spell
abbrev pub at_bytes : ℕ → Result (List ℕ) FromHexError → WatchLine
at_bytes moment (Ok bytes) = at moment bytes
at_bytes moment (Err error) = malformed

abbrev pub behind : ℕ → List (List ℕ) → WatchLine
behind moment [] = at moment []
behind moment (digits ∷ []) = at_bytes moment (decode_of digits)
behind moment (digits ∷ word ∷ rest) = malformed

abbrev pub with_moment : Option ℕ → List (List ℕ) → WatchLine
with_moment None words = malformed
with_moment (Some moment) words = behind moment words

abbrev pub spelled_by : List (List ℕ) → WatchLine
spelled_by [] = blank
spelled_by (first ∷ words) = with_moment (moment_of first) words

abbrev pub spelled_in : List ℕ → WatchLine
spelled_in line = spelled_by (words_of line)
