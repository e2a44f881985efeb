-- What is read of files and of standard input.
use Rattle.std.specs.Prelude.{◌≡◌, ◌⊎◌}
use Rattle.cmd_faults.specs.declared.fault.RunFault.TheVariants as run
use Rattle.remarks.specs.declared.failure.Failure.{Failure}

-- a text could not be read whole: a device failed, or a growth was refused
abbrev pub IsReadingFault : Failure → Type 0
IsReadingFault failure = (failure.fault ≡ run.Device) ⊎ (failure.fault ≡ run.Memory)
