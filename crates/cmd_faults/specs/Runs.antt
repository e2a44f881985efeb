-- The faults of parts of a run, as those of the run: that memory ran out is the run's own.
use Rattle.show_reader.specs.declared.fault.ShowFault.{ShowFault}
use Rattle.show_reader.specs.declared.fault.ShowFault.TheVariants as show_fault
use Rattle.rehearsal_faults.specs.declared.fault.Fault.{Fault}
use Rattle.rehearsal_faults.specs.declared.fault.Fault.TheVariants as setup_fault
use Rattle.cmd_faults.specs.declared.fault.RunFault.{RunFault}
use Rattle.cmd_faults.specs.declared.fault.RunFault.TheVariants as run

-- why a show text is refused
abbrev pub of_show : ShowFault → RunFault
of_show show_fault.Memory = run.Memory
of_show fault = run.Show fault

-- why no rehearsal begins
abbrev pub of_setup : Fault → RunFault
of_setup setup_fault.Memory = run.Memory
of_setup fault = run.Setup fault
