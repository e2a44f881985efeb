-- Why a night is not played, since a run over its show failed.
use Rattle.std.specs.Prelude.{ℕ, List, None}
use Rattle.cmd_faults.specs.declared.fault.RunFault.{RunFault}
use Rattle.remarks.specs.Failures.{Fails, of_run}
use Rattle.remarks.specs.declared.failure.JobFault.{JobFault}
use Rattle.remarks.specs.declared.failure.JobFault.TheVariants as job

-- a run over this show failed for this reason
abbrev pub IsOfRun : RunFault → List ℕ → JobFault → Type 0
IsOfRun reason show (job.Run failure) = Fails reason (of_run reason show None) failure
IsOfRun reason show _ = ⊥
