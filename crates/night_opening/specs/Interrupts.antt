-- Whether control-C ends a night.
use Rattle.std.specs.Prelude.{ℕ, Bool, true, not, bytes_eq, codes, List, Result, Ok, Err}
use Rattle.std.specs.declared.env.VarError.{VarError}
use Rattle.std.specs.declared.env.VarError.TheVariants.{OutOfMemory}
use Rattle.cmd_faults.specs.declared.fault.RunFault.{RunFault}
use Rattle.cmd_faults.specs.declared.fault.RunFault.TheVariants.{Memory}

-- by what the variable says
abbrev pub interrupts_by : List ℕ → Bool
interrupts_by text = not (bytes_eq text (codes "ignored"))

-- by why it says nothing
abbrev pub interrupts_without : VarError → Result Bool RunFault
interrupts_without OutOfMemory = Err Memory
interrupts_without reason = Ok true
