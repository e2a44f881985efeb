-- How a night begins or goes on by what stands in its record.
use Rattle.std.specs.Prelude.{◌≡◌, ◌⊎◌, ◌+◌, ◌-◌, ◌&&◌, ◌||◌, ℕ, Bool, true, false, List, length}
use Rattle.std.specs.Prelude.{take, drop, Option, Some, None, Result, Ok, Err, if◌then◌else◌}
use Rattle.std.specs.Prelude.{nat_eq, nat_lt}
use Rattle.std.specs.List.{position_or_len, starts_with}
use Rattle.ascii_text.specs.Text.{is_newline}
use Rattle.night_record.specs.Head.{head_text}
use Rattle.night_record.specs.declared.head.RecordHead.{RecordHead}
use Rattle.night_record.specs.WholeLines.{whole_length}
use Rattle.night_record.specs.declared.opening.RecordOpening.{RecordOpening}
use Rattle.night_record.specs.declared.opening.RecordOpening.TheVariants.{Begins, GoesOn}
use Rattle.night_record.specs.declared.unfit.Unfit.{Unfit}
use Rattle.night_record.specs.declared.unfit.Unfit.TheVariants.{NoRecord}
use Rattle.night_record.specs.Unfit.{IsOwn}

-- the first two lines without the last LF, where a text has two that are whole
abbrev pub head_in : List ℕ → Option (List ℕ)
head_in text =
    let first = position_or_len is_newline text in
    let second = position_or_len is_newline (drop (first + 1) text) in
    let end = first + 1 + second in
    if nat_lt end (length text) then Some (take end text) else None

-- a text is a part of the head of a night, which may have begun at any moment: that is the last 24
-- bytes
abbrev pub is_part_of_head : RecordHead → List ℕ → Bool
is_part_of_head night text =
    let front = take (length (head_text night) - 24) (head_text night) in
    starts_with nat_eq front text
    || (starts_with nat_eq text front && nat_lt (length text) (length (head_text night) + 1))

-- what becomes of the night of a head by what stands in its record. It goes on where two lines are
-- its head, behind the last LF: what stands there is a line that was cut. It begins where no two
-- lines are whole, and what stands there is a part of its head
abbrev pub IsOpening : RecordHead → List ℕ → Result RecordOpening Unfit → Type 0
IsOpening night text (Ok Begins) = (head_in text ≡ None) × (is_part_of_head night text ≡ true)
IsOpening night text (Ok (GoesOn lines)) = (line : List ℕ) × (head : RecordHead)
    × (head_in text ≡ Some line) × IsOwn night line (Ok head)
    × (lines.from ≡ length line + 1) × (lines.to ≡ whole_length text)
IsOpening night text (Err unfit) =
    ((head_in text ≡ None) × (is_part_of_head night text ≡ false) × (unfit ≡ NoRecord))
    ⊎ ((line : List ℕ) × (head_in text ≡ Some line) × IsOwn night line (Err unfit))
