-- Which files a record is kept in.
use Rattle.std.specs.Prelude.{ℕ, Bool, true, false, nat_eq, nat_lt, Option, Some, None}
use Rattle.std.specs.Prelude.{Result, Ok, Err, if◌then◌else◌}
use Rattle.night_files.specs.declared.file_lock.FileLock.{FileLock}
use Rattle.night_files.specs.declared.file_lock.FileLock.TheVariants.{Missing, Ours, Theirs}
use Rattle.night_files.specs.declared.fault.FileFault.{FileFault}
use Rattle.night_files.specs.declared.file_node.FoundFile.{FoundFile}
use Rattle.night_files.specs.declared.record_use.FileAccess.{FileAccess}
use Rattle.night_files.specs.declared.record_use.RecordRefusal.{RecordRefusal}
use Rattle.night_files.specs.declared.record_use.RecordRefusal.TheVariants as refusal
use Rattle.night_files.specs.declared.record_use.RecordUse.{RecordUse}
use Rattle.night_files.specs.declared.record_use.RecordUse.TheVariants.{Begin, Resume, Watch}

-- a FIFO is opened for reading and writing, so that it is there at once, whether anybody reads it
-- or not; each other file for writing behind its end, and it is made where it is not there; one of
-- a night that goes on is read, too
abbrev pub access_to : RecordUse → Bool → FileAccess
access_to Begin is_fifo = if is_fifo
    then record { reads = true; writes = true; appends = false; creates = false }
    else record { reads = false; writes = false; appends = true; creates = true }
access_to Resume is_fifo = if is_fifo
    then record { reads = true; writes = true; appends = false; creates = false }
    else record { reads = true; writes = false; appends = true; creates = true }
access_to Watch is_fifo =
    record { reads = true; writes = false; appends = true; creates = false }

-- a night begins in what has no bytes, a FIFO or a device too; it goes on, and is watched, in a
-- regular file alone
abbrev pub refusal_of : RecordUse → Bool → ℕ → Option RecordRefusal
refusal_of Begin is_regular length =
    if nat_eq length 0 then None else Some refusal.NotEmpty
refusal_of Resume is_regular length = if is_regular then None else Some refusal.NoFile
refusal_of Watch is_regular length = if is_regular then None else Some refusal.NoFile

-- once it is locked, a file that its name does not lead to any more is refused; else it is looked
-- at once more
abbrev pub refusal_once_locked : RecordUse → Bool → Bool → ℕ → Option RecordRefusal
refusal_once_locked aim is_named is_regular length =
    if is_named then refusal_of aim is_regular length else Some refusal.OtherName

-- to take a night over: whether it is taken; without locks no night is
abbrev pub lock_to_take_over : FileLock → Result Bool RecordRefusal
lock_to_take_over Ours = Ok true
lock_to_take_over Theirs = Ok false
lock_to_take_over Missing = Err refusal.NoLocks

-- a file that no night began in: this program has its lock, and no byte stands in it
abbrev pub is_unused : FileLock → Option ℕ → Bool
is_unused Ours (Some length) = nat_eq length 0
is_unused lock length = false

-- which record is removed where no night began in it: the one that is given, else the one whose file
-- was made for this run
abbrev pub unused_record : {N : Type 0} → Option N → Option N → Option N
unused_record (Some name) made = Some name
unused_record None made = made

-- what a night opens its file for
abbrev pub use_of_night : Bool → RecordUse
use_of_night resumes = if resumes then Resume else Begin

-- how many bytes stand in what a record is kept in: none in a FIFO or a device, and none where the
-- system does not say
abbrev pub kept_length : Result FoundFile FileFault → ℕ
kept_length (Ok found) = if found.is_regular then found.length else 0
kept_length (Err fault) = 0

-- a file is cut to what is kept of it, where it is longer
abbrev pub is_cut_due : ℕ → ℕ → Bool
is_cut_due length kept = nat_lt kept length
