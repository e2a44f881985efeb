-- What is told of a listen that failed.
use Rattle.std.specs.Prelude.{ℕ, List, [], Option, Some, None, codes}
use Rattle.std.specs.declared.io.ErrorKind.{ErrorKind}
use Rattle.cmd_faults.specs.declared.fault.RunFault.{RunFault}
use Rattle.remarks.specs.Failures.{of_run}
use Rattle.remarks.specs.Remarks.{of_device}

-- the reason of the socket, where it failed, or else that of standard output
abbrev pub of_listen : Option ErrorKind → RunFault → Option ErrorKind → List ℕ
of_listen (Some kind) fault output = of_device (codes "the socket") kind
of_listen None fault output = of_run fault [] output
