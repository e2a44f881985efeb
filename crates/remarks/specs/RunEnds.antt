-- How a job ends whose run has ended.
use Rattle.std.specs.Prelude.{ℕ, ◌≡◌, List, Result, Ok, Err, IfErr}
use Rattle.cmd_faults.specs.declared.fault.RunFault.{RunFault}
use Rattle.remarks.specs.declared.failure.Failure.{Failure}

-- how the run of a job ended, by how the job did
abbrev pub run_of : {A : Type 0} → Result A Failure → Result Unit RunFault
run_of (Ok done) = Ok tt
run_of (Err failure) = Err failure.fault

-- this remark is told of the fault of a run
abbrev pub TellsOf : {A : Type 0} → (RunFault → List ℕ) → Result A Failure → Type 0
TellsOf remark ended = IfErr ended (λ failure. failure.remark.items ≡ remark failure.fault)
