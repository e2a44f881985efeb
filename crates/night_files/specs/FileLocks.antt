-- What the request for a lock means.
use Rattle.std.specs.Prelude.{Bool, true, false}
use Rattle.std.specs.declared.io.ErrorKind.{ErrorKind}
use Rattle.std.specs.declared.io.ErrorKind.TheVariants.{Interrupted, WouldBlock}
use Rattle.night_files.specs.declared.file_lock.FileLock.{FileLock}
use Rattle.night_files.specs.declared.file_lock.FileLock.TheVariants.{Missing, Ours, Theirs}

-- the system gives the lock, or else its reason: where another process holds the lock, or a signal
-- interrupted the request, it may be had later; for any other reason there is none
abbrev pub requested_lock : Bool → ErrorKind → FileLock
requested_lock true reason = Ours
requested_lock false WouldBlock = Theirs
requested_lock false Interrupted = Theirs
requested_lock false reason = Missing
