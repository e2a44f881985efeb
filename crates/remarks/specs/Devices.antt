-- Why a device, a lock or a record is not had, and what is told of it.
use Rattle.std.specs.Prelude.{ℕ, List, [], ◌∷◌, codes}
use Rattle.cmd_faults.specs.declared.fault.RunFault.TheVariants as run
use Rattle.night_files.specs.declared.cid_lock.LockFault.{LockFault}
use Rattle.night_files.specs.declared.cid_lock.LockFault.TheVariants as lock
use Rattle.night_files.specs.declared.fault.DeviceFault.{DeviceFault}
use Rattle.night_files.specs.declared.fault.DeviceFault.TheVariants as device
use Rattle.night_files.specs.declared.fault.RecordFault.{RecordFault}
use Rattle.night_files.specs.declared.fault.RecordFault.TheVariants as file
use Rattle.remarks.specs.Failures.{Fails, of_cid_lock}
use Rattle.remarks.specs.Refusals.{Rejects, in_use, no_record, record_rule, use_rule}
use Rattle.remarks.specs.Remarks.{of_device, remark_of}
use Rattle.remarks.specs.declared.failure.Failure.{Failure}
use Rattle.remarks.specs.declared.failure.JobFault.{JobFault}
use Rattle.remarks.specs.declared.failure.JobFault.TheVariants as job

-- a night has no lock of its CID
abbrev pub no_lock : List ℕ
no_lock = codes "cid: no lock can be made, so a second console of this CID would begin\n"

-- the lock of a CID is not had
abbrev pub IsLockFailure : LockFault → Failure → Type 0
IsLockFailure (lock.Held path) failure = Fails run.Device (of_cid_lock path.bytes) failure
IsLockFailure lock.Memory failure = Fails run.Memory [] failure

-- a device is not had
abbrev pub IsDeviceFailure : DeviceFault → Failure → Type 0
IsDeviceFailure (device.Device name kind) failure =
    Fails run.Device (of_device name.now kind) failure
IsDeviceFailure device.Memory failure = Fails run.Memory [] failure

-- what stands in the file of a record that is to begin is not written over
abbrev pub full_record : List ℕ
full_record = codes "the record's file is not empty: --resume goes on with it"

-- nor is one kept that nothing locks, where a spare may follow it
abbrev pub record_without_lock : List ℕ
record_without_lock =
    codes "no lock can be made on the record: a spare could not tell who plays"

-- WHY NO RECORD IS KEPT in the file of this name: it is refused, or the run fails
abbrev pub IsRecordFault : List ℕ → RecordFault → JobFault → Type 0
IsRecordFault name file.NoFile (job.Record refusal) =
    Rejects no_record (remark_of (record_rule ∷ [])) refusal
IsRecordFault name (file.InUse process) (job.Record refusal) =
    Rejects (in_use process) (remark_of (use_rule ∷ [])) refusal
IsRecordFault name (file.File kind) (job.Run failure) =
    Fails run.Device (of_device name kind) failure
IsRecordFault name file.NotEmpty (job.Run failure) =
    Fails run.Device (remark_of (full_record ∷ [])) failure
IsRecordFault name file.NoLocks (job.Run failure) =
    Fails run.Device (remark_of (record_without_lock ∷ [])) failure
IsRecordFault name (file.Way fault) (job.Run failure) = IsDeviceFailure fault failure
IsRecordFault name file.Memory (job.Run failure) = Fails run.Memory [] failure
IsRecordFault name fault ended = ⊥
