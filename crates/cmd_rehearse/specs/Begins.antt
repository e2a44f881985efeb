-- Whether a rehearsal begins, or why not.
use Rattle.std.specs.Prelude.{◌≡◌, ◌⊎◌, ℕ, ◌<◌, ◌≤◌, List, [], ◌∷◌, length, Result, Ok, Err}
use Rattle.std.specs.Prelude.{IsOkAnd, Option, Some, None}
use Rattle.show_line.specs.Said.{desk_limits}
use Rattle.show_reader.specs.declared.fault.ShowFault.TheVariants as show_fault
use Rattle.show_reader.specs.ItsShow.{OfItsShow}
use Rattle.show_reader.specs.Reading.{text_fault, NothingGrows}
use Rattle.cmd_rehearse.specs.declared.script.ScriptFault.TheVariants as script_fault
use Rattle.cmd_rehearse.specs.Script.{script_of, ExplainsScript}
use Rattle.rehearsal_faults.specs.declared.fault.Fault.{Fault}
use Rattle.rehearsal_faults.specs.declared.fault.Fault.TheVariants as setup
use Rattle.wire_world.specs.Refusing.{setup_fault}
use Rattle.cmd_faults.specs.declared.fault.RunFault.{RunFault}
use Rattle.cmd_faults.specs.declared.fault.RunFault.TheVariants as run

-- the most bytes that a script has
abbrev pub longest_script : ℕ
longest_script = 16777216

-- why a script is not read: it is too long, or its first malformed line; or memory was wanted
abbrev pub LeavesScript : List ℕ → RunFault → Type 0
LeavesScript script run.Script = longest_script < length script
LeavesScript script (run.Line number) =
    (length script ≤ longest_script) × (script_of script ≡ Err number)
LeavesScript script run.Memory =
    (length script ≤ longest_script) × ExplainsScript script script_fault.Memory
LeavesScript script _ = ⊥

-- the show has no fault, and the script is not too long and has no malformed line; and this is the
-- first fault of its consoles and receivers, or they have none
pub record IsSetUp (show script : List ℕ) (fault : Option Fault) : Type 0 where
  pub faultless : text_fault desk_limits show ≡ None
  pub short : length script ≤ longest_script
  pub set_up : OfItsShow show (λ s. IsOkAnd (script_of script) (λ p.
      setup_fault (s ∷ []) p.consoles p.receivers ≡ fault))

-- where memory may be wanted: while the show is read, if it is not too long and something in it
-- grows; while the script is read, if the show has no fault; or at the rehearsal itself
abbrev pub WantsMemory : List ℕ → List ℕ → Type 0
WantsMemory show script =
    ((length show ≤ 1048576) × (NothingGrows desk_limits show → ⊥))
    ⊎ (((text_fault desk_limits show ≡ None) × LeavesScript script run.Memory)
    ⊎ IsSetUp show script None)

-- why no rehearsal begins: the show's fault, then the script's size, then its first malformed
-- line, then the first fault of its consoles and receivers. Want of memory may come in place of a
-- later one
abbrev pub Prevents : List ℕ → List ℕ → RunFault → Type 0
Prevents show script (run.Show show_fault.Memory) = ⊥
Prevents show script (run.Show fault) = text_fault desk_limits show ≡ Some fault
Prevents show script run.Script = (text_fault desk_limits show ≡ None)
    × LeavesScript script run.Script
Prevents show script (run.Line number) =
    (text_fault desk_limits show ≡ None) × LeavesScript script (run.Line number)
Prevents show script (run.Setup setup.Memory) = ⊥
Prevents show script (run.Setup fault) = IsSetUp show script (Some fault)
Prevents show script run.Memory = WantsMemory show script
Prevents show script _ = ⊥

-- whether a rehearsal begins: nothing prevents it; or why not
abbrev pub RehearsalBegins : {X : Type 0} → Result X RunFault → List ℕ → List ℕ → Type 0
RehearsalBegins (Ok x) show script = IsSetUp show script None
RehearsalBegins (Err run.Device) show script = IsSetUp show script None
RehearsalBegins (Err fault) show script = Prevents show script fault
