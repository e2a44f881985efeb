-- Which words spell bytes.
use Rattle.std.proofs.Common.{◌≡◌, ℕ, ◌%◌, List, length, refl, ap}
use Rattle.std.specs.Prelude.{Some, None, Result, Ok, Err}
use Rattle.std.specs.List.{AllPass}
use Rattle.hex.specs.Hex.{decode_of, is_hex_digit}
use Rattle.hex.specs.declared.error.FromHexError.{FromHexError}
use Rattle.hex.proofs.HexLemmas.{decode_of-ok, decode_of-digits}
use Rattle.cmd_rehearse.specs.Forms.{hex_bytes, decode_answer}

pub spelled : (word : List ℕ) → length word % 2 ≡ 0 → AllPass is_hex_digit word
    → (bytes : List ℕ) × (hex_bytes word ≡ Some bytes)
spelled word even digits = let r = decode_of-digits word even digits in (r.0, ap decode_answer r.1)

none_of : (word : List ℕ) (r : Result (List ℕ) FromHexError) → decode_of word ≡ r
    → (length word % 2 ≡ 0 → AllPass is_hex_digit word → ⊥) → None ≡ decode_answer r
none_of word (Ok bytes) is never =
    let h = decode_of-ok word bytes is in absurd (never h.0 h.1)
none_of word (Err e) is never = refl

pub not_spelled : (word : List ℕ) → (length word % 2 ≡ 0 → AllPass is_hex_digit word → ⊥)
    → None ≡ hex_bytes word
not_spelled word never = none_of word (decode_of word) refl never
