-- The exit status of a run, and what is reported of its end.
use Rattle.std.specs.Prelude.{◌≡◌, ◌⊎◌, ℕ, List, ◌++◌, Result, Ok, Err, codes, decimal}
use Rattle.devices.specs.Tape.{Tape, with_more, with_failure}
use Rattle.show_reader.specs.declared.fault.ShowFault.{ShowFault}
use Rattle.show_reader.specs.declared.fault.ShowFault.TheVariants as show_fault
use Rattle.rehearsal_faults.specs.declared.fault.Fault.{Fault}
use Rattle.rehearsal_faults.specs.declared.fault.Fault.TheVariants as setup_fault
use Rattle.cmd_faults.specs.declared.fault.RunFault.{RunFault}
use Rattle.cmd_faults.specs.declared.fault.RunFault.TheVariants as run

-- a fault's status: 2 where a word is refused, 3 where the show is, 4 where an input line or a
-- script is, 5 where a device failed or packets were lost, 6 where memory ran out
abbrev pub fault_status : RunFault → ℕ
fault_status (run.Show show_fault.Memory) = 6
fault_status (run.Show fault) = 3
fault_status run.NoCue = 3
fault_status run.Base = 2
fault_status (run.Line line) = 4
fault_status run.Script = 4
fault_status (run.Setup setup_fault.Memory) = 6
fault_status (run.Setup fault) = 4
fault_status run.Device = 5
fault_status (run.Lost count) = 5
fault_status run.Memory = 6

-- the status of a run, 0 where it ended well
abbrev pub status_of : {X : Type 0} → Result X RunFault → ℕ
status_of (Ok x) = 0
status_of (Err fault) = fault_status fault

-- the fault of this name on a line
abbrev pub line_fault_text : ℕ → List ℕ → List ℕ
line_fault_text line name = codes "show line " ++ decimal line ++ codes ": " ++ name

-- a fault of the show, by its name
abbrev pub show_fault_text : ShowFault → List ℕ
show_fault_text show_fault.TooLong = codes "show: TooLong"
show_fault_text (show_fault.Ident line) = line_fault_text line (codes "Ident")
show_fault_text (show_fault.MissingNumber line) = line_fault_text line (codes "MissingNumber")
show_fault_text (show_fault.BadNumber line) = line_fault_text line (codes "BadNumber")
show_fault_text (show_fault.BadLevel line) = line_fault_text line (codes "BadLevel")
show_fault_text (show_fault.BadTime line) = line_fault_text line (codes "BadTime")
show_fault_text (show_fault.HalfPair line) = line_fault_text line (codes "HalfPair")
show_fault_text (show_fault.HalfTriple line) = line_fault_text line (codes "HalfTriple")
show_fault_text (show_fault.Limit line) = line_fault_text line (codes "Limit")
show_fault_text show_fault.Memory = codes "memory"

-- why no rehearsal begins, by its name
abbrev pub setup_fault_text : Fault → List ℕ
setup_fault_text setup_fault.Consoles = codes "setup: Consoles"
setup_fault_text setup_fault.Receivers = codes "setup: Receivers"
setup_fault_text setup_fault.NoShow = codes "setup: NoShow"
setup_fault_text setup_fault.Universe = codes "setup: Universe"
setup_fault_text setup_fault.Memory = codes "memory"

-- the text of a fault
abbrev pub fault_text : RunFault → List ℕ
fault_text (run.Show fault) = show_fault_text fault
fault_text run.NoCue = codes "show: NoCue"
fault_text run.Base = codes "base: Universe"
fault_text (run.Line line) = codes "line " ++ decimal line ++ codes " refused"
fault_text run.Script = codes "script: TooLong"
fault_text (run.Setup fault) = setup_fault_text fault
fault_text run.Device = codes "device fault"
fault_text (run.Lost count) = codes "lost " ++ decimal count
fault_text run.Memory = codes "memory"

-- one write of this text: the output took it all, or the write failed
abbrev pub Wrote : List ℕ → Tape ℕ → Tape ℕ → Type 0
Wrote text before after = (after ≡ with_more before text) ⊎ (after ≡ with_failure before)

-- what is reported of a run: a line with its fault's text, or nothing where it ended well
abbrev pub Reports : {X : Type 0} → Result X RunFault → Tape ℕ → Tape ℕ → Type 0
Reports (Ok x) before after = after ≡ before
Reports (Err fault) before after = Wrote (fault_text fault ++ codes "\n") before after
