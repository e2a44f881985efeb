-- What a record is that another process writes, and how it is read.
use Rattle.std.specs.Prelude.{ℕ, Bool, true, false, ◌&&◌, nat_le, Option, Some, None}
use Rattle.std.specs.Prelude.{Result, Ok, Err}
use Rattle.std.specs.declared.io.ErrorKind.{ErrorKind}
use Rattle.std.specs.declared.io.ErrorKind.TheVariants.{Interrupted}
use Rattle.night_record.specs.declared.record_kind.RecordKind.{RecordKind}
use Rattle.night_record.specs.declared.record_kind.RecordKind.TheVariants.{File, Fifo}
use Rattle.night_record.specs.declared.record_kind.RecordRead.{RecordRead}
use Rattle.night_record.specs.declared.record_kind.RecordRead.TheVariants.{AtPlace, Onward, Nothing}

-- a record is a FIFO or a regular file, and nothing else
abbrev pub kind_of_record : Bool → Bool → Option RecordKind
kind_of_record is_regular true = Some Fifo
kind_of_record true false = Some File
kind_of_record false false = None

-- only a FIFO is opened for writing too
abbrev pub is_opened_to_write : RecordKind → Bool
is_opened_to_write File = false
is_opened_to_write Fifo = true

-- a file is read behind the bytes that are had of it; a FIFO gives what comes next, where the
-- system says that something is there, and else nothing
abbrev pub next_read : RecordKind → Option Bool → RecordRead
next_read File is_ready = AtPlace
next_read Fifo (Some true) = Onward
next_read Fifo (Some false) = Nothing
next_read Fifo None = Nothing

-- a read that failed for this reason: one that was interrupted brought no byte
abbrev pub failed_read : ErrorKind → Result ℕ ErrorKind
failed_read Interrupted = Ok 0
failed_read kind = Err kind

-- a record is there as long as its name leads to it, and a file has the bytes that were given of it
abbrev pub is_still_there : RecordKind → Bool → ℕ → ℕ → Bool
is_still_there File is_named length given = is_named && nat_le given length
is_still_there Fifo is_named length given = is_named
