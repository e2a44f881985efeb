-- Why a run ends with a fault. Want of memory may come in place of any other answer.
use Rattle.std.specs.Prelude.{◌≡◌, ◌<◌, ℕ, true, false, List, length, Some, None, Result, Err}
use Rattle.std.specs.Prelude.{OnOk, IfErr}
use Rattle.show_line.specs.Said.{desk_limits}
use Rattle.show_line.specs.declared.statement.Record.TheVariants.{Cue}
use Rattle.show_reader.specs.declared.fault.ShowFault.TheVariants as show_fault
use Rattle.show_reader.specs.Text.{statements_of}
use Rattle.show_reader.specs.Meaning.{is_record_there}
use Rattle.show_reader.specs.Reading.{text_fault, longest_text}
use Rattle.cmd_faults.specs.declared.fault.RunFault.{RunFault}
use Rattle.cmd_faults.specs.declared.fault.RunFault.TheVariants as run

-- the show was not read: its text has this fault
abbrev pub ReadFails : List ℕ → RunFault → Type 0
ReadFails show (run.Show show_fault.Memory) = ⊥
ReadFails show (run.Show fault) = text_fault desk_limits show ≡ Some fault
ReadFails show run.Memory = Unit {0}
ReadFails show _ = ⊥

-- `check`: the show was not read, or it was, and the output failed
abbrev pub CheckFails : List ℕ → RunFault → Type 0
CheckFails show run.Device = text_fault desk_limits show ≡ None
CheckFails show fault = ReadFails show fault

-- `look`: the show was not read; or it was, and the cue is not there; or it is there, and the
-- output failed
abbrev pub LookFails : List ℕ → ℕ → RunFault → Type 0
LookFails show cue run.NoCue =
    (text_fault desk_limits show ≡ None)
    × (is_record_there (Cue cue) (statements_of desk_limits show) ≡ false)
LookFails show cue run.Device =
    (text_fault desk_limits show ≡ None)
    × (is_record_there (Cue cue) (statements_of desk_limits show) ≡ true)
LookFails show cue fault = ReadFails show fault

-- how a run ends that reads a show first: well only where the text has no fault, else with a fault
-- of these; and too long is told of every text that is
pub record ReadsFirst {X : Type 0} (show : List ℕ) (Fails : RunFault → Type 0)
    (result : Result X RunFault) : Type 0 where
  pub faultless : OnOk result (text_fault desk_limits show ≡ None)
  pub fault : IfErr result Fails
  pub too_long : longest_text < length show → result ≡ Err (run.Show show_fault.TooLong)
