-- When what is typed has ended.
use Rattle.std.specs.Prelude.{Bool, true}
use Rattle.live_machine.specs.declared.input.Came.{Came}
use Rattle.live_machine.specs.declared.input.Came.TheVariants.{End}

-- the input has ended once its end came, which is none that was typed
abbrev pub input_has_ended : Bool → Came → Bool
input_has_ended had_ended End = true
input_has_ended had_ended came = had_ended
