-- Why a night tells nothing at its start.
use Rattle.std.proofs.Common.{◌≡◌, false, None, inl, inr, refl}
use Rattle.cmd_faults.specs.declared.fault.RunFault.TheVariants as run
use Rattle.night_opening.specs.NightStarts.{IsUntold}
use Rattle.night_opening.specs.declared.night_start.NightAtStart.{NightAtStart}
use Rattle.patch_core.specs.Frame.{is_base}
use Rattle.show_core.specs.Tables.{Tables}
use Rattle.show_line.specs.Said.{desk_limits}
use Rattle.show_reader.specs.Reading.{text_fault}
use Rattle.show_reader.specs.Shows.{IsShowOf}
use Rattle.show_reader.specs.Text.{statements_of}
use Rattle.show_reader.proofs.OneShow.{of_its_show}

-- a universe of the show has no number
pub without_numbers : (night : NightAtStart) (show : Tables)
    → text_fault desk_limits night.show.now ≡ None
    → IsShowOf (statements_of desk_limits night.show.now) show
    → is_base show.patch night.night.now.base ≡ false → IsUntold night run.Base
without_numbers night show faultless is none = inr (inl (
  refl,
  faultless,
  of_its_show night.show.now (λ s. is_base s.patch night.night.now.base ≡ false) show is none,
))
