-- What stands at the places of a head's parts.
use Rattle.std.specs.Prelude.{◌==◌, ◌-◌, ℕ, Bool, List, length, take, drop, Option, Some, None}
use Rattle.std.specs.Prelude.{Result, Ok, Err, if◌then◌else◌}
use Rattle.std.specs.List.{position_or_len}
use Rattle.hex.specs.Hex.{decode_sized}
use Rattle.hex.specs.declared.error.FromHexError.{FromHexError}
use Rattle.uuid.specs.Text.{parsed}
use Rattle.ascii_text.specs.Forms.{whole_of}
use Rattle.night_record.specs.Head.{name_of}
use Rattle.night_record.specs.declared.head.RecordHead.{RecordHead}

-- the comma behind a part
abbrev pub is_comma : ℕ → Bool
is_comma b = b == 44

abbrev pub hex_answer : Result (List ℕ) FromHexError → Option (List ℕ)
hex_answer (Ok bytes) = Some bytes
hex_answer (Err error) = None

-- the checksum that hex digits spell
abbrev pub show_of : List ℕ → Option (List ℕ)
show_of digits = hex_answer (decode_sized digits 32)

-- the bytes of a moment
abbrev pub started_of : List ℕ → Option (List ℕ)
started_of text = if length text == 24 then Some text else None

-- a head, where each of its parts is there
abbrev pub head_with : Option (List ℕ) → Option (List ℕ) → Option ℕ → Option ℕ → Option (List ℕ)
    → Option (List ℕ) → Option RecordHead
head_with (Some show) (Some cid) (Some priority) (Some base) (Some name) (Some started) =
    Some record {
      show = show;
      cid = cid;
      priority = priority;
      base = base;
      name = name;
      started = started;
    }
head_with _ _ _ _ _ _ = None

-- the text before the first comma, and what stands behind it and a word of seven bytes
abbrev pub before_comma : List ℕ → List ℕ
before_comma text = take (position_or_len is_comma text) text

abbrev pub behind_comma : List ℕ → List ℕ
behind_comma text = drop 7 (drop (position_or_len is_comma text) text)

-- a name and a moment: all but the last 34 bytes, and what stands behind `, started ` of those
abbrev pub with_name_and_start : (Option (List ℕ) → Option (List ℕ) → Option RecordHead) → List ℕ
    → Option RecordHead
with_name_and_start with_parts text =
    let n = length text - 34 in
    with_parts (name_of (take n text)) (started_of (drop 10 (drop n text)))

-- what stands behind the words of a head, at the places of the parts
abbrev pub head_at_places : List ℕ → Option RecordHead
head_at_places line =
    let digits = drop 27 line in
    let cid = drop 7 (drop 64 digits) in
    let priority = drop 11 (drop 36 cid) in
    let base = behind_comma priority in
    with_name_and_start (head_with (show_of (take 64 digits)) (parsed (take 36 cid))
    (whole_of 255 (before_comma priority)) (whole_of 65535 (before_comma base))) (behind_comma base)
