-- The system's list of locks: whose lock a line is.
use Rattle.std.specs.Prelude.{ℕ, ◌+◌, ◌*◌, ◌/◌, ◌%◌, Bool, false, ◌&&◌, List, ◌++◌, codes, decimal}
use Rattle.std.specs.Prelude.{bytes_eq, nat_lt, slice_index_or, [], if◌then◌else◌}
use Rattle.std.specs.Prelude.{Option, None, drop, option_and_then, take}
use Rattle.std.specs.List.{find}
use Rattle.std.specs.Fmt.{digits}
use Rattle.ascii_text.specs.Forms.{number_of}
use Rattle.ascii_text.specs.Text.{lines_of, words_of}

-- a device has two numbers in one: the bits 8 to 19 and 44 to 63 are its major number, and the bits
-- 0 to 7 and 20 to 43 its minor one
abbrev pub major_number : ℕ → ℕ
major_number device = device / 256 % 4096 + 4096 * (device / 17592186044416 % 1048576)

abbrev pub minor_number : ℕ → ℕ
minor_number device = device % 256 + 256 * (device / 1048576 % 16777216)

-- a number in hex, with two digits at least
abbrev pub hex_text : ℕ → List ℕ
hex_text number =
    if nat_lt number 16 then codes "0" ++ digits 16 false number else digits 16 false number

-- how the list names a file: by the numbers of its device, and its own
abbrev pub node_text : ℕ → ℕ → List ℕ
node_text device inode = hex_text (major_number device) ++ codes ":"
    ++ hex_text (minor_number device) ++ codes ":" ++ decimal inode

-- the word at a place of a line, from 0
abbrev pub word_at : ℕ → List ℕ → List ℕ
word_at place line = slice_index_or (words_of line) place []

-- a line is of a lock that the file of this name has
abbrev pub is_lock_of : List ℕ → List ℕ → Bool
is_lock_of node line =
    bytes_eq (word_at 1 line) (codes "FLOCK") && bytes_eq (word_at 5 line) node

-- the process in a line
abbrev pub process_in : List ℕ → Option ℕ
process_in line = number_of (word_at 4 line)

-- the process that locked a file: that of the first line that is of its lock
abbrev pub locking_process : List ℕ → List ℕ → Option ℕ
locking_process node list = option_and_then process_in (find (is_lock_of node) (lines_of list))

-- the descriptor that a name spells: the number behind `/dev/fd/`
abbrev pub descriptor_in : List ℕ → Option ℕ
descriptor_in name =
    if bytes_eq (take 8 name) (codes "/dev/fd/") then number_of (drop 8 name) else None
