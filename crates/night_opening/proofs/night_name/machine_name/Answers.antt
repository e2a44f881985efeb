use Rattle.std.proofs.Common.{◌∙◌}
use Rattle.std.specs.Str.{IsUtf8}
use Rattle.std.proofs.lemmas.Result.{IfOk-weaker}
use Rattle.std.proofs.lemmas.Str.{IsUtf8-from_ascii}
use Rattle.cmd_words.specs.Source.{name_on}
use Rattle.night_opening.proofs.MachineNames.{name_ascii}
use Rattle.night_opening.proofs.night_name.machine_name.Goals as goal

pub returns : goal.returns
returns c =
    let is = c.as_slice.ensures.value ∙ c.in_ok-name.ensures in
    let utf8 : IsUtf8 (name_on c.args.machine.now)
    = IsUtf8-from_ascii _ (name_ascii c.args.machine.now) in
    let text = c.text_of.ensures (rw is utf8) in
    IfOk-weaker c.new.result _ _ (λ name named. named ∙ text ∙ is) c.new.ensures
