-- How a play opens its console.
use Rattle.std.specs.Prelude.{◌≡◌, ℕ, false, List, [], Err, None, IsTrue}
use Rattle.fade_core.specs.Level.{Start}
use Rattle.patch_core.specs.Frame.{is_base}
use Rattle.show_line.specs.Said.{desk_limits}
use Rattle.show_reader.specs.ItsShow.{OfItsShow}
use Rattle.show_reader.specs.Reading.{text_fault}
use Rattle.console.specs.ConsoleState.{ConsoleState}
use Rattle.console.specs.Stands.{StandsFor}
use Rattle.sacn_source.specs.Identity.{Identity}
use Rattle.cmd_faults.specs.declared.fault.RunFault.{RunFault}
use Rattle.cmd_play.specs.Play.{PlayBegins, has_begun}

-- a console was opened for the show that a text means
pub record IsOpened {F : Type 0} (fader_stands_for : F → List Start → Type 0)
    (console : ConsoleState F) (show : List ℕ) (base : ℕ) (source : Identity) : Type 0 where
  pub faultless : text_fault desk_limits show ≡ None
  pub numbered : OfItsShow show (λ s. IsTrue (is_base s.patch base))
  pub stands : OfItsShow show (λ s. StandsFor fader_stands_for
      (record { show = s; base = base; source = source }) console [])

-- no console was opened, for this reason
abbrev pub Refuses : RunFault → List ℕ → ℕ → Type 0
Refuses fault show base =
    (has_begun {X = Unit {0}} (Err fault) ≡ false) × PlayBegins {X = Unit {0}} (Err fault) show base
