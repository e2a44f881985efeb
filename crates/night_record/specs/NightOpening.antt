-- What a night does with its record when it begins.
use Rattle.std.specs.Prelude.{◌≡◌, ◌&&◌, ℕ, Bool, true, false, List, [], ◌++◌, length, codes}
use Rattle.std.specs.Prelude.{Option, Some, None, Result, Ok, Err, if◌then◌else◌, nat_le, nat_lt}
use Rattle.std.specs.List.{slice_range}
use Rattle.arrayvec.specs.declared.array_vec.ArrayVec.{ArrayVec}
use Rattle.night_record.specs.Head.{head_text}
use Rattle.night_record.specs.Opening.{IsOpening}
use Rattle.night_record.specs.declared.head.RecordHead.{RecordHead}
use Rattle.night_record.specs.declared.night_opening.NightOpening.{NightOpening}
use Rattle.night_record.specs.declared.opening.RecordOpening.TheVariants.{Begins, GoesOn}
use Rattle.night_record.specs.declared.opening.TakenUp.{TakenUp}
use Rattle.night_record.specs.declared.unfit.Unfit.{Unfit}

-- these bytes of a record are lines of a night
abbrev pub lines_of_night : TakenUp → List ℕ → List ℕ
lines_of_night lines text =
    if nat_le lines.from lines.to && nat_le lines.to (length text)
    then slice_range text lines.from lines.to else []

-- a night goes on where there are lines of it
abbrev pub goes_on : TakenUp → Bool
goes_on lines = nat_lt lines.from lines.to

-- a record of so many bytes has a line that was cut behind the lines of the night
abbrev pub has_cut_line : TakenUp → ℕ → Bool
has_cut_line lines length = nat_lt lines.to length

abbrev pub no_lines : TakenUp
no_lines = record { from = 0; to = 0 }

-- a night that begins writes its head, and one that goes on writes none
abbrev pub Opens : RecordHead → List ℕ → Option (ArrayVec ℕ 265 (Unit {0})) → TakenUp → Type 0
Opens night text (Some head) lines = (head.items ≡ head_text night ++ codes "\n")
    × (lines ≡ no_lines) × IsOpening night text (Ok Begins)
Opens night text None lines = IsOpening night text (Ok (GoesOn lines))

abbrev pub IsNightOpening : RecordHead → List ℕ → Result NightOpening Unfit → Type 0
IsNightOpening night text (Ok opening) = Opens night text opening.head opening.lines
IsNightOpening night text (Err unfit) = IsOpening night text (Err unfit)

-- a night goes on behind so many bytes of a record that another process played, where nothing
-- failed and the record is still there
abbrev pub opening_behind : {F : Type 0} → ℕ → Option F → Bool → F → Result NightOpening F
opening_behind given (Some fault) is_there gone = Err fault
opening_behind given None true gone =
    Ok record { head = None; lines = record { from = 0; to = given } }
opening_behind given None false gone = Err gone
