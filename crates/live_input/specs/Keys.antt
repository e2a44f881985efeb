-- What arrow and function keys send, which is no text: ESC, `[` and bytes up to one of 64 to 126;
-- ESC, `O` and one byte; or ESC and one other byte.
use Rattle.std.specs.Prelude.{ℕ, Bool, false, ◌&&◌, ◌==◌, not, nat_le, if◌then◌else◌}
use Rattle.std.specs.Prelude.{List, [], ◌∷◌}
use Rattle.std.specs.List.{list_any}
use Rattle.live_input.specs.declared.keys.Part.{Part}
use Rattle.live_input.specs.declared.keys.Part.TheVariants.{Text, Escape, Sequence, Last}

-- ESC
abbrev pub is_escape : ℕ → Bool
is_escape byte = byte == 27

-- what the next byte belongs to, behind a byte of the text
abbrev pub in_text : ℕ → Part
in_text byte = if is_escape byte then Escape else Text

-- behind ESC; another ESC begins again
abbrev pub behind_escape : ℕ → Part
behind_escape byte =
    if is_escape byte then Escape
    else (if byte == 91 then Sequence else (if byte == 79 then Last else Text))

-- behind `ESC [`; a function key of the Linux console sends `[` once more, and one byte
abbrev pub in_sequence : ℕ → Part
in_sequence byte =
    if byte == 91 then Last
    else (if nat_le 64 byte && nat_le byte 126 then Text else Sequence)

abbrev pub part_after : Part → ℕ → Part
part_after Text byte = in_text byte
part_after Escape byte = behind_escape byte
part_after Sequence byte = in_sequence byte
part_after Last byte = Text

-- a byte of the text itself
abbrev pub is_text_byte : Part → ℕ → Bool
is_text_byte Text byte = not (is_escape byte)
is_text_byte _ byte = false

abbrev pub text_from : Part → List ℕ → List ℕ
text_from part [] = []
text_from part (byte ∷ bytes) =
    if is_text_byte part byte then byte ∷ text_from (part_after part byte) bytes
    else text_from (part_after part byte) bytes

-- what is left of a line without the keys
abbrev pub without_keys : List ℕ → List ℕ
without_keys = text_from Text

abbrev pub has_keys : List ℕ → Bool
has_keys = list_any is_escape
