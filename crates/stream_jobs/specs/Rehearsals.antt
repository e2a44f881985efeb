-- What a rehearsal leaves on standard output, which may hold lines back.
use Rattle.std.specs.Prelude.{ℕ, ◌≡◌, ◌⊎◌, List, Result, Ok, Err}
use Rattle.std.specs.List.{concat}
use Rattle.devices.specs.Tape.{Tape, with_failure, with_more}
use Rattle.cmd_faults.specs.declared.fault.RunFault.{RunFault}
use Rattle.cmd_faults.specs.declared.fault.RunFault.TheVariants as run
use Rattle.cmd_rehearse.specs.Printed.{PrintsAll}

-- all lines were printed, and then handing on what was held back failed
pub record FailsToHandOn (Are : List (List ℕ) → Type 0) (before after : Tape ℕ) : Type 0 where
  pub lines : List (List ℕ)
  pub are : Are lines
  pub fails : after ≡ with_failure (with_more before (concat lines))

-- at Ok all of it is handed on; at Device that may have failed, or a line before
abbrev pub HandsOnAll : Result Unit RunFault → Type 0 → (List (List ℕ) → Type 0) → Tape ℕ → Tape ℕ
    → Type 0
HandsOnAll (Ok done) HandedOn Are before after = HandedOn × PrintsAll (Ok done) Are before after
HandsOnAll (Err run.Device) HandedOn Are before after =
    PrintsAll {X = Unit} (Err run.Device) Are before after ⊎ FailsToHandOn Are before after
HandsOnAll (Err fault) HandedOn Are before after = PrintsAll {X = Unit} (Err fault) Are before after
