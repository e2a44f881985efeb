-- The forms of a script's words: what a word spells, or `None`; and the console of a header.
use Rattle.std.specs.Prelude.{ℕ, List, [], ◌∷◌, ◌==◌, if◌then◌else◌, Option, Some, None}
use Rattle.std.specs.Prelude.{codes, option_and_then, Result, Ok, Err}
use Rattle.ascii_text.specs.Forms.{whole_of}
use Rattle.hex.specs.Hex.{decode_of}
use Rattle.hex.specs.declared.error.FromHexError.{FromHexError}
use Rattle.wire_world.specs.declared.setup.Setup.{Setup}

-- a universe number: 1 to 63999 (E1.31-2018, universe)
abbrev pub universe_of : List ℕ → Option ℕ
universe_of word = option_and_then (λ n. if n == 0 then None else Some n) (whole_of 63999 word)

-- the number of a console, a receiver or a universe in an event
abbrev pub place_of : List ℕ → Option ℕ
place_of = whole_of 65535

-- what was decoded, where it could be
abbrev pub decode_answer : Result (List ℕ) FromHexError → Option (List ℕ)
decode_answer (Ok bytes) = Some bytes
decode_answer (Err error) = None

-- the bytes that an even number of hex digits spell
abbrev pub hex_bytes : List ℕ → Option (List ℕ)
hex_bytes word = decode_answer (decode_of word)

-- the hex digits of a stray: one word, or none
abbrev pub digits_in : List (List ℕ) → Option (List ℕ)
digits_in [] = Some []
digits_in (digits ∷ []) = Some digits
digits_in (digits ∷ word ∷ rest) = None

-- a console: it plays the one show that there is, and the source's name is the program's
abbrev pub setup : ℕ → ℕ → List ℕ → Setup
setup base priority cid = record {
  show = 0;
  base = base;
  identity = record { cid = cid; name = codes "cueplayer"; priority = priority };
}
