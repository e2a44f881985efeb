-- What a night takes from the record that another process keeps.
use Rattle.std.specs.Prelude.{◌≡◌, ℕ, Bool, List, Option, Result, Ok, Err}
use Rattle.std.specs.declared.io.ErrorKind.TheVariants as kind
use Rattle.arrayvec.specs.declared.array_vec.ArrayVec.{ArrayVec}
use Rattle.night_files.specs.declared.fault.RecordFault.{RecordFault}
use Rattle.night_files.specs.declared.fault.RecordFault.TheVariants as file
use Rattle.night_record.specs.NightOpening.{opening_behind}
use Rattle.night_record.specs.Unfit.{FollowsFound, TakesUpFound}
use Rattle.night_record.specs.declared.head.RecordHead.{RecordHead}
use Rattle.night_record.specs.declared.night_opening.NightOpening.{NightOpening}
use Rattle.night_record.specs.declared.unfit.Unfit.{Unfit}
use Rattle.night_record.specs.declared.unfit.UnfitMain.{UnfitMain}
use Rattle.remarks.specs.Devices.{IsRecordFault}
use Rattle.remarks.specs.Refusals.{IsUnfit, IsUnfitMain}
use Rattle.remarks.specs.declared.failure.JobFault.{JobFault}
use Rattle.remarks.specs.declared.failure.JobFault.TheVariants as job

-- the first two lines of a record, and what stands behind them
abbrev pub FoundLines : Type 0 → Type 0
FoundLines L = Option (ArrayVec ℕ 403 (Unit {0}) × L)

-- the lines behind the head of this night, or why they are not taken up
abbrev pub AreOwnLines : {L : Type 0} → RecordHead → FoundLines L → Result L JobFault → Type 0
AreOwnLines night found (Ok lines) = TakesUpFound night found (Ok lines)
AreOwnLines {L = L} night found (Err (job.Record refusal)) = (unfit : Unfit)
    × TakesUpFound {L = L} night found (Err unfit) × IsUnfit unfit night refusal
AreOwnLines night found (Err _) = ⊥

-- those behind the head of a main, or why they are not followed
abbrev pub AreMainLines : {L : Type 0} → RecordHead → FoundLines L
    → Result (RecordHead × L) JobFault → Type 0
AreMainLines night found (Ok main) = FollowsFound night found (Ok main)
AreMainLines {L = L} night found (Err (job.Record refusal)) = (unfit : UnfitMain)
    × FollowsFound {L = L} night found (Err unfit) × IsUnfitMain unfit night refusal
AreMainLines night found (Err _) = ⊥

-- a night goes on behind so many bytes of the record in the file of this name, where nothing failed
-- and its file is still there; or why it does not
abbrev pub opening_of_played : ℕ → Option RecordFault → Bool → Result NightOpening RecordFault
opening_of_played given failure is_there =
    opening_behind given failure is_there (file.File kind.NotFound)

abbrev pub IsOpeningBehind : List ℕ → ℕ → Option RecordFault → Bool
    → Result NightOpening JobFault → Type 0
IsOpeningBehind name given failure is_there (Ok opening) =
    opening_of_played given failure is_there ≡ Ok opening
IsOpeningBehind name given failure is_there (Err fault) = (reason : RecordFault)
    × (opening_of_played given failure is_there ≡ Err reason) × IsRecordFault name reason fault
