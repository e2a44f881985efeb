-- What a rehearsal of a script over a show leaves on its output.
use Rattle.std.specs.Prelude.{◌≡◌, ℕ, List, [], ◌∷◌, ◌++◌, Result, Ok, Err, IsOkAnd}
use Rattle.std.specs.Prelude.{OnErr, OnOk}
use Rattle.std.specs.List.{concat}
use Rattle.devices.specs.Tape.{Tape, with_more, with_failure}
use Rattle.show_core.specs.Tables.{Tables}
use Rattle.show_reader.specs.ItsShow.{OfItsShow}
use Rattle.cmd_rehearse.specs.Script.{Parts, script_of}
use Rattle.wire_world.specs.World.{World}
use Rattle.wire_world.specs.Promised.{IsPromised}
use Rattle.wire_world.specs.Reported.{IsReportOf, RehearsalReport}
use Rattle.wire_world.specs.Stands.{world_of}
use Rattle.cmd_faults.specs.declared.fault.RunFault.{RunFault}
use Rattle.cmd_faults.specs.declared.fault.RunFault.TheVariants as run
use Rattle.cmd_rehearse.specs.Texts.{rehearsal_lines}

-- the world of a script: its consoles, each playing the show, its receivers, and its strays
abbrev pub world : Tables → Parts → World
world show script = world_of (show ∷ []) script.consoles script.receivers script.strays

-- the lines of a rehearsal of a script over a show: the replies to its events, each behind the
-- number of its line, and then the slots of each receiver after all of them
pub record AreLines (show : Tables) (script : Parts) (lines : List (List ℕ)) : Type 0 where
  pub report : RehearsalReport
  pub came : IsReportOf (world show script) script.events report
  pub are : lines ≡ rehearsal_lines script.lines report.replies report.last

-- and of whose replies and slots the promise holds: the headline, the window law, the merge law,
-- and that consoles are independent
pub record ArePromisedLines (show : Tables) (script : Parts) (lines : List (List ℕ)) : Type 0 where
  pub lines_are : AreLines show script lines
  pub promised : IsPromised (world show script) script.events lines_are.report

-- such lines of the script that a text means, over the show that a text means
unfoldable pub AreLinesOf : List ℕ → List ℕ → List (List ℕ) → Type 0
AreLinesOf show script lines =
    OfItsShow show (λ s. IsOkAnd (script_of script) (λ p. ArePromisedLines s p lines))

-- the output took some of the lines, from the first on, and then one write failed
pub record StopsWithin (lines : List (List ℕ)) (before after : Tape ℕ) : Type 0 where
  pub front : List (List ℕ)
  pub line : List ℕ
  pub rest : List (List ℕ)
  pub parts : lines ≡ front ++ line ∷ rest
  pub took : after ≡ with_failure (with_more before (concat front))

-- a line was printed by one write, as an output has it that tells after it, and so told before: it
-- took the line, or the write failed
pub record PrintsLine {W X E : Type 0} (tells : W → Type 0) (tape : W → Tape ℕ)
    (result : Result X E) (line : List ℕ) (before after : W) : Type 0 where
  pub told : tells after → tells before
  pub ok : OnOk result (tells after → tape after ≡ with_more (tape before) line)
  pub err : OnErr result (tells after → tape after ≡ with_failure (tape before))

-- lines were printed: the output took all of them and nothing else; or it failed at one of them
abbrev pub PrintsLines : {X E : Type 0} → Result X E → List (List ℕ) → Tape ℕ → Tape ℕ → Type 0
PrintsLines (Ok x) lines before after = after ≡ with_more before (concat lines)
PrintsLines (Err e) lines before after = StopsWithin lines before after

-- at Ok the output took all lines and nothing else, at Device it failed at one of them, and at any
-- other fault nothing was written
abbrev pub PrintsAll : {X : Type 0} → Result X RunFault → (List (List ℕ) → Type 0) → Tape ℕ → Tape ℕ
    → Type 0
PrintsAll (Ok x) Are before after =
    (lines : List (List ℕ)) × Are lines × (after ≡ with_more before (concat lines))
PrintsAll (Err run.Device) Are before after =
    (lines : List (List ℕ)) × Are lines × StopsWithin lines before after
PrintsAll (Err fault) Are before after = after ≡ before
