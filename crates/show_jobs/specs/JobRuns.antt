-- How the run of a job ended, by how the job did.
use Rattle.std.specs.Prelude.{ℕ, ◌≡◌, List, Result, Ok, Err}
use Rattle.cmd_faults.specs.declared.fault.RunFault.{RunFault}
use Rattle.remarks.specs.declared.failure.JobFault.{JobFault}
use Rattle.remarks.specs.declared.failure.JobFault.TheVariants as job

-- well too, where something else than the run was refused or is in doubt
abbrev pub run_of_job : {A : Type 0} → Result A JobFault → Result Unit RunFault
run_of_job (Ok done) = Ok tt
run_of_job (Err (job.Run failure)) = Err failure.fault
run_of_job (Err fault) = Ok tt

-- how a job ended, whatever it answers
abbrev pub end_of : {A : Type 0} → Result A JobFault → Result Unit JobFault
end_of (Ok answer) = Ok tt
end_of (Err fault) = Err fault

-- this remark is told of the fault of the run
abbrev pub TellsOfRun : {A : Type 0} → (RunFault → List ℕ) → Result A JobFault → Type 0
TellsOfRun remark (Err (job.Run failure)) = failure.remark.items ≡ remark failure.fault
TellsOfRun remark ended = Unit {0}
