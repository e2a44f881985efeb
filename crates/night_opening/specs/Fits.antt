-- Whether a show can be played as a night asks: at its base, and to its targets.
use Rattle.std.specs.Prelude.{◌≡◌, ◌⊎◌, ◌+◌, ℕ, Bool, List, Option, Some, None, Result}
use Rattle.std.specs.Prelude.{Ok, Err, if◌then◌else◌, map, nat_le}
use Rattle.std.specs.List.{list_all}
use Rattle.show_core.specs.Readers.{patch_ordinals}
use Rattle.show_line.specs.Said.{desk_limits}
use Rattle.show_reader.specs.ItsShow.{OfItsShow}
use Rattle.show_reader.specs.Reading.{text_fault}
use Rattle.show_reader.specs.declared.fault.ShowFault.{ShowFault}
use Rattle.show_reader.specs.declared.fault.ShowFault.TheVariants.{Memory}
use Rattle.cmd_faults.specs.Runs.{of_show}
use Rattle.cmd_words.specs.declared.job.Night.{Night}
use Rattle.cmd_faults.specs.declared.fault.RunFault.TheVariants as run
use Rattle.remarks.specs.Targets.{of_target}
use Rattle.remarks.specs.declared.failure.JobFault.{JobFault}
use Rattle.remarks.specs.declared.failure.JobFault.TheVariants as job
use Rattle.targets.specs.Misfit.{misfit_of}
use Rattle.targets.specs.declared.misfit.TargetMisfit.{TargetMisfit}
use Rattle.targets.specs.declared.target.Target.{Target}
use Rattle.night_opening.specs.Faults.{IsOfRun}

-- the universes with these ordinals, where the base is the number of ordinal 0
abbrev pub universes : ℕ → List ℕ → List ℕ
universes base ordinals = map (λ ordinal. base + ordinal) ordinals

-- each is the number of a universe; a base is at least 1
abbrev pub have_numbers : List ℕ → Bool
have_numbers numbers = list_all (λ number. nat_le number 63999) numbers

-- these universes, where each has a number
abbrev pub numbers_of : List ℕ → Option (List ℕ)
numbers_of numbers = if have_numbers numbers then Some numbers else None

-- the targets suit these universes, or what is wrong with them is told
abbrev pub SuitsTargets : List Target → List ℕ → Result Unit JobFault → Type 0
SuitsTargets targets universes (Ok done) = misfit_of universes targets ≡ None
SuitsTargets targets universes (Err (job.Words remark)) = (misfit : TargetMisfit)
    × (misfit_of universes targets ≡ Some misfit) × (remark.items ≡ of_target misfit)
SuitsTargets targets universes (Err _) = ⊥

-- the same of the universes of a show, where each has a number; else the base is refused
abbrev pub SuitsNumbers : List Target → Option (List ℕ) → List ℕ → Result Unit JobFault → Type 0
SuitsNumbers targets (Some universes) show result = SuitsTargets targets universes result
SuitsNumbers targets None show (Err fault) = IsOfRun run.Base show fault
SuitsNumbers targets None show (Ok done) = ⊥

-- the show of a text was not read, for this reason: an allocation failed, or it is the text's fault
pub record IsUnread (show : List ℕ) (fault : JobFault) : Type 0 where
  pub reason : ShowFault
  pub reason_is : (reason ≡ Memory) ⊎ (text_fault desk_limits show ≡ Some reason)
  pub told : IsOfRun (of_show reason) show fault

-- the targets suit the show of a text, or why not
abbrev pub FitsItsShow : Night → List ℕ → Result Unit JobFault → Type 0
FitsItsShow night show result =
    OfItsShow show (λ s. SuitsNumbers night.targets
    (numbers_of (universes night.base (patch_ordinals s.patch))) show result)

-- the show is read first, then its universes get their numbers, and then the targets are looked at
abbrev pub IsFit : Night → List ℕ → Result Unit JobFault → Type 0
IsFit night show (Ok done) = FitsItsShow night show (Ok done)
IsFit night show (Err fault) = IsUnread show fault ⊎ FitsItsShow night show (Err fault)
