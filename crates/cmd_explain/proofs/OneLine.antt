-- A note is one line.
use Rattle.cmd_explain.proofs.Terms.{◌≤◌, ℕ, List, map, arith, All, slice_index_or, nat_tests}
use Rattle.cmd_explain.proofs.Terms.{All-map, IsOneLine, display_text, display_byte}

in_range : (byte : ℕ) → (32 ≤ display_byte byte) × (display_byte byte ≤ 126)
in_range byte = grind (arith, nat_tests)

one_line : (bytes : List ℕ) → IsOneLine (display_text bytes)
one_line bytes = All-map (λ byte. (32 ≤ byte) × (byte ≤ 126)) display_byte bytes
    (λ k d within. in_range (slice_index_or bytes k d))

-- so is each of some notes, as they are shown
pub one_line_each : {X : Type 0} (text_of : X → List ℕ) (notes : List X)
    → All IsOneLine (map (λ note. display_text (text_of note)) notes)
one_line_each text_of notes = All-map IsOneLine (λ note. display_text (text_of note)) notes
    (λ k d within. one_line (text_of (slice_index_or notes k d)))
