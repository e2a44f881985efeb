-- What a pipe that tells did.
use Rattle.std.specs.Prelude.{◌≡◌, ℕ, ◌+◌, List, [], ◌++◌, Bool, true, false, not, Option}
use Rattle.std.specs.Prelude.{Some, None, if◌then◌else◌}
use Rattle.std.specs.declared.io.ErrorKind.{ErrorKind}
use Rattle.std.specs.declared.io.ErrorKind.TheVariants.{Interrupted, WouldBlock}

pub record PipeTape : Type 0 where
  -- the bytes that it took
  pub taken : List ℕ
  -- how often it was written to
  pub writes : ℕ
  -- the milliseconds that it was given to take bytes, in all
  pub wait : ℕ
  -- its last answer was that it takes none
  pub is_full : Bool
  -- why the last write failed, if it did
  pub fault : Option ErrorKind

-- it was asked whether it takes bytes within so many milliseconds
abbrev pub after_question : PipeTape → ℕ → Bool → PipeTape
after_question tape milliseconds answer =
    record tape { wait = tape.wait + milliseconds; is_full = not answer }

-- it was written to, and took these bytes
abbrev pub after_write : PipeTape → List ℕ → Option ErrorKind → PipeTape
after_write tape bytes fault =
    record tape { taken = tape.taken ++ bytes; writes = tape.writes + 1; fault = fault }

-- a write that fails so is made again later
abbrev pub is_passing : ErrorKind → Bool
is_passing Interrupted = true
is_passing WouldBlock = true
is_passing _ = false

-- a failure behind which nothing is written any more
abbrev pub lasting_failure : Option ErrorKind → Option ErrorKind
lasting_failure None = None
lasting_failure (Some kind) = if is_passing kind then None else Some kind

-- nothing was taken yet, and no write failed
pub record IsNewTape (tape : PipeTape) : Type 0 where
  pub nothing : tape.taken ≡ []
  pub no_fault : tape.fault ≡ None
