-- How a check ends, by the weight of its show.
use Rattle.std.proofs.Common.{◌≡◌, ℕ, List, Result, Ok, Err, refl, true}
use Rattle.show_core.specs.Tables.{Tables}
use Rattle.show_line.specs.Said.{desk_limits}
use Rattle.show_reader.specs.ItsShow.{OfItsShow}
use Rattle.show_reader.specs.Reading.{lines_read}
use Rattle.show_reader.specs.Shows.{IsShowOf}
use Rattle.show_reader.specs.Text.{statements_of}
use Rattle.show_reader.proofs.OneShow.{of_its_show}
use Rattle.cmd_explain.specs.Weights.{IsWeightOf}
use Rattle.cmd_explain.specs.declared.weight.Weight.{Weight}
use Rattle.cmd_faults.specs.declared.fault.RunFault.{RunFault}
use Rattle.remarks.specs.Weights.{IsStrictEnd}
use Rattle.remarks.specs.declared.failure.JobFault.{JobFault}
use Rattle.remarks.specs.declared.failure.JobFault.TheVariants as job
use Rattle.show_jobs.specs.Checks.{IsCheckEnd, IsWeighedEnd}
use Rattle.show_jobs.specs.JobRuns.{TellsOfRun, run_of_job}

-- the weight of the show that was read is that of each
pub weight_is : (text : List ℕ) (count : ℕ) (s : Tables) (weight : Weight)
    → IsShowOf (statements_of desk_limits text) s → count ≡ lines_read desk_limits text
    → IsWeightOf text count s weight
    → OfItsShow text (λ t. IsWeightOf text (lines_read desk_limits text) t weight)
weight_is text count s weight is read weighs =
    of_its_show text (λ t. IsWeightOf text (lines_read desk_limits text) t weight) s is
    (rw read at weighs)

-- and a strict check ends by it
pub strict_end : (text : List ℕ) (weight : Weight) (ended : Result Unit JobFault)
    → OfItsShow text (λ s. IsWeightOf text (lines_read desk_limits text) s weight)
    → IsStrictEnd weight ended → IsCheckEnd true text ended
strict_end text weight ended weighs end = (
  weighs.0,
  λ s is. record { weight = weight; weighs = weighs.1 s is; end = end },
)

-- its run has ended well, where it has doubts too
pub strict_run : (A : Type 0) (weight : Weight) (fault : JobFault)
    → IsStrictEnd weight (Err fault) → run_of_job {A = A} (Err fault) ≡ Ok tt
strict_run A weight (job.Run failure) end = elim end [ ]
strict_run A weight (job.Record refusal) end = elim end [ ]
strict_run A weight (job.Doubts remark) end = refl
strict_run A weight (job.Words remark) end = elim end [ ]

-- and nothing is told of a fault of the run
pub strict_remark : (A : Type 0) (told : RunFault → List ℕ) (weight : Weight) (fault : JobFault)
    → IsStrictEnd weight (Err fault) → TellsOfRun {A = A} told (Err fault)
strict_remark A told weight (job.Run failure) end = elim end [ ]
strict_remark A told weight (job.Record refusal) end = tt
strict_remark A told weight (job.Doubts remark) end = tt
strict_remark A told weight (job.Words remark) end = tt
