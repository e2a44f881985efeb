-- What processes that write the files of outputs owe: bytes that they were given, and that the
-- files do not have yet.
use Rattle.std.specs.Prelude.{ℕ, ◌+◌, ◌-◌, Bool, false, ◌&&◌, nat_eq, if◌then◌else◌}
use Rattle.std.specs.Prelude.{List, ◌++◌, Option, Some, None, codes, decimal}
use Rattle.std.specs.declared.io.ErrorKind.{ErrorKind}
use Rattle.line_queue.specs.declared.owed.WrittenFile.{WrittenFile}
use Rattle.line_queue.specs.declared.owed.WrittenFiles.{WrittenFiles}
use Rattle.line_queue.specs.declared.owed.GivenBytes.{GivenBytes}

abbrev pub file_length : Option WrittenFile → ℕ
file_length None = 0
file_length (Some file) = file.length

-- such a process was given what its pipe took; where the pipe failed nothing counts any more
abbrev pub piped_bytes : Option ErrorKind → ℕ → ℕ
piped_bytes None taken = taken
piped_bytes (Some kind) taken = 0

-- of a file that was so long before, whose writer was given so many bytes, and that is so now:
-- where no other process writes it, nothing is owed
abbrev pub owed_bytes : ℕ → ℕ → Option WrittenFile → ℕ
owed_bytes before given None = 0
owed_bytes before given (Some now) = before + given - now.length

-- files of the same number on the same device
abbrev pub are_one_file : Option WrittenFile → Option WrittenFile → Bool
are_one_file (Some one) (Some other) =
    nat_eq one.device other.device && nat_eq one.number other.number
are_one_file _ _ = false

-- of two outputs: where both go to one file, it gets the bytes of both
abbrev pub owed_by_outputs : WrittenFiles → GivenBytes → WrittenFiles → ℕ
owed_by_outputs before given now =
    if are_one_file now.output now.error
    then owed_bytes (file_length before.output) (given.output + given.error) now.output
    else owed_bytes (file_length before.output) given.output now.output
    + owed_bytes (file_length before.error) given.error now.error

-- what is told of bytes that the writer of a record still owes at the end of a night
abbrev pub record_owed_line : ℕ → List ℕ
record_owed_line left =
    codes "record: " ++ decimal left ++ codes " bytes are still with its writer\n"

-- and of those that the writers of the outputs owe
abbrev pub outputs_owed_line : ℕ → List ℕ
outputs_owed_line left =
    codes "outputs: " ++ decimal left ++ codes " bytes are still with their writers\n"
