-- How the program ends: its exit status, and what is told on standard error before.
use Rattle.std.specs.Prelude.{◌≡◌, ℕ, Bool, true, false, List, [], ◌∷◌, ◌++◌, codes}
use Rattle.std.specs.Prelude.{◌==◌, ◌&&◌, not, Result, Ok, Err, if◌then◌else◌, length}
use Rattle.std.specs.declared.io.ErrorKind.{ErrorKind}
use Rattle.std.specs.declared.io.ErrorKind.TheVariants.{OutOfMemory}
use Rattle.devices.specs.Tape.{Tape}
use Rattle.cmd_faults.specs.declared.fault.RunFault.TheVariants as run
use Rattle.cmd_faults.specs.Status.{Wrote, fault_status, fault_text}
use Rattle.remarks.specs.Failures.{Fails}
use Rattle.remarks.specs.Remarks.{RemarkBytes, of_device, remark_of}
use Rattle.remarks.specs.declared.failure.Failure.{Failure}
use Rattle.remarks.specs.declared.failure.JobFault.{JobFault}
use Rattle.remarks.specs.declared.failure.JobFault.TheVariants as job
use Rattle.remarks.specs.declared.job_end.JobEnd.{JobEnd}
use Rattle.remarks.specs.declared.job_end.JobEnd.TheVariants as end

-- the exit status of a fault: of a run that failed that of its fault; 2 where words are refused, 3
-- where a strict check has doubts, 4 where a record is refused
abbrev pub job_status : JobFault → ℕ
job_status (job.Run failure) = fault_status failure.fault
job_status (job.Words remark) = 2
job_status (job.Doubts remark) = 3
job_status (job.Record refusal) = 4

-- the exit status: 0 where it ended well, and 2 where the words are refused by a text of their own
abbrev pub end_status : JobEnd → ℕ
end_status (end.Well remark) = 0
end_status end.Refusal = 2
end_status (end.Fault fault) = job_status fault

-- the line of a fault, by which programs go
abbrev pub fault_line : JobFault → List ℕ
fault_line (job.Run failure) = fault_text failure.fault ++ codes "\n"
fault_line (job.Words remark) = codes "words refused\n"
fault_line (job.Doubts remark) = codes "show: Doubtful\n"
fault_line (job.Record refusal) = refusal.line.bytes

-- the remark on it, for people
abbrev pub fault_remark : JobFault → List ℕ
fault_remark (job.Run failure) = failure.remark.items
fault_remark (job.Words remark) = remark.items
fault_remark (job.Doubts remark) = remark.items
fault_remark (job.Record refusal) = refusal.remark.items

-- where there are remarks, one stands on a line of its own; where nothing more is known there is
-- none
abbrev pub remark_texts : Bool → List ℕ → List (List ℕ)
remark_texts has_remarks remark =
    if has_remarks && not (length remark == 0) then remark ∷ codes "\n" ∷ [] else []

-- WHAT IS TOLD OF AN END: the line of its fault, and behind it the remark, where there are remarks;
-- so without them exactly that line, and nothing where it ended well
abbrev pub end_texts : Bool → JobEnd → List (List ℕ)
end_texts has_remarks (end.Well remark) = remark_texts has_remarks remark.items
end_texts has_remarks end.Refusal = []
end_texts has_remarks (end.Fault fault) =
    fault_line fault ∷ remark_texts has_remarks (fault_remark fault)

-- one write for each of these texts, the first first: the output took it all, or that write failed
abbrev pub WroteEach : List (List ℕ) → Tape ℕ → Tape ℕ → Type 0
WroteEach [] before after = after ≡ before
WroteEach (text ∷ texts) before after =
    (middle : Tape ℕ) × Wrote text before middle × WroteEach texts middle after

-- a run failed, and this is told of it
abbrev pub IsRunFault : (Failure → Type 0) → JobEnd → Type 0
IsRunFault told (end.Fault (job.Run failure)) = told failure
IsRunFault told _ = ⊥

-- words were refused, and this is told of it
abbrev pub IsWordsFault : List ℕ → JobEnd → Type 0
IsWordsFault text (end.Fault (job.Words remark)) = remark.items ≡ text
IsWordsFault text _ = ⊥

-- it ended well, with this remark
abbrev pub EndsWell : List ℕ → JobEnd → Type 0
EndsWell text (end.Well remark) = remark.items ≡ text
EndsWell text _ = ⊥

-- the end of a job
abbrev pub end_of_job : Result RemarkBytes JobFault → JobEnd
end_of_job (Ok remark) = end.Well remark
end_of_job (Err fault) = end.Fault fault

-- the end where a text of its own was all that was to be told: of help on standard output it is a
-- fault that this took no text, and of a refusal it is none that standard error took none
abbrev pub IsEndOfText : Bool → Result Unit ErrorKind → JobEnd → Type 0
IsEndOfText true shown ended = ended ≡ end.Refusal
IsEndOfText false (Ok done) ended = EndsWell [] ended
IsEndOfText false (Err reason) ended =
    IsRunFault (Fails run.Device (of_device (codes "standard output") reason)) ended

-- no memory was had, of which nothing more is told
abbrev pub IsEndOfMemory : JobEnd → Type 0
IsEndOfMemory ended = IsRunFault (Fails run.Memory []) ended

-- the words could not be read for this reason: there was no memory, or they are no text
abbrev pub IsEndOfUnread : ErrorKind → JobEnd → Type 0
IsEndOfUnread OutOfMemory ended = IsEndOfMemory ended
IsEndOfUnread reason ended =
    IsWordsFault (remark_of (codes "the words are text in UTF-8" ∷ [])) ended
