-- Reports and statuses, evaluated.
use Rattle.std.specs.Prelude.{◌≡◌, refl, codes}
use Rattle.std.specs.Fmt.{digits}
use Rattle.show_reader.specs.declared.fault.ShowFault.TheVariants.{TooLong, MissingNumber, BadLevel}
use Rattle.show_reader.specs.declared.fault.ShowFault.TheVariants.{Memory}
use Rattle.rehearsal_faults.specs.declared.fault.Fault.TheVariants as setup_fault
use Rattle.cmd_faults.specs.declared.fault.RunFault.TheVariants as run
use Rattle.cmd_faults.specs.Status.{fault_text, fault_status}

show_faults : (fault_text (run.Show (BadLevel 2)) ≡ codes "show line 2: BadLevel")
    × (fault_text (run.Show (MissingNumber 1)) ≡ codes "show line 1: MissingNumber")
    × (fault_text (run.Show TooLong) ≡ codes "show: TooLong")
    × (fault_status (run.Show (BadLevel 2)) ≡ 3)
unfolding digits
show_faults = (refl, refl, refl, refl)

look_missing_cue : (fault_text run.NoCue ≡ codes "show: NoCue") × (fault_status run.NoCue ≡ 3)
look_missing_cue = (refl, refl)

base_universe : (fault_text run.Base ≡ codes "base: Universe") × (fault_status run.Base ≡ 2)
base_universe = (refl, refl)

play_refusals : (fault_text (run.Line 2) ≡ codes "line 2 refused") × (fault_status (run.Line 2) ≡ 4)
unfolding digits
play_refusals = (refl, refl)

play_lost : (fault_text (run.Lost 1) ≡ codes "lost 1") × (fault_status (run.Lost 1) ≡ 5)
unfolding digits
play_lost = (refl, refl)

want_of_memory : (fault_text (run.Show Memory) ≡ codes "memory")
    × (fault_status (run.Show Memory) ≡ 6)
want_of_memory = (refl, refl)

setup_faults : (fault_text (run.Setup setup_fault.Consoles) ≡ codes "setup: Consoles")
    × (fault_status (run.Setup setup_fault.Consoles) ≡ 4)
    × (fault_text (run.Setup setup_fault.Receivers) ≡ codes "setup: Receivers")
    × (fault_text (run.Setup setup_fault.Universe) ≡ codes "setup: Universe")
    × (fault_text run.Script ≡ codes "script: TooLong") × (fault_status run.Script ≡ 4)
    × (fault_status (run.Setup setup_fault.Memory) ≡ 6)
setup_faults = (refl, refl, refl, refl, refl, refl, refl)
