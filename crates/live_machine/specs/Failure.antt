-- Why the machine did not do what it was asked for, in words.
use Rattle.std.specs.Prelude.{ℕ, List, codes}
use Rattle.std.specs.declared.io.ErrorKind.{ErrorKind}
use Rattle.std.specs.declared.io.ErrorKind.TheVariants as kind

-- the words for each kind of the system's errors
abbrev pub words_for : ErrorKind → List ℕ
words_for kind.NotFound = codes "there is no such file"
words_for kind.PermissionDenied = codes "the system does not permit it"
words_for kind.IsADirectory = codes "it is a directory"
words_for kind.NotADirectory = codes "a part of its path is no directory"
words_for kind.AddrInUse = codes "the address and port are in use"
words_for kind.AddrNotAvailable = codes "this machine does not have the address"
words_for kind.NetworkUnreachable = codes "no route leads to that network"
words_for kind.HostUnreachable = codes "the host is not reachable"
words_for kind.NetworkDown = codes "the network is down"
words_for kind.ConnectionRefused = codes "nobody listens there"
words_for kind.BrokenPipe = codes "its reader is gone"
words_for kind.StorageFull = codes "the disk is full"
words_for kind.ReadOnlyFilesystem = codes "the file system is read-only"
words_for kind.InvalidInput = codes "the system does not take it"
words_for _ = codes "the system refused"
