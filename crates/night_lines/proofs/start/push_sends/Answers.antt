use Rattle.std.specs.Option.{option_to_list}
use Rattle.night_lines.specs.Sends.{sends_line}
use Rattle.night_lines.specs.Starts.{target_lines}
use Rattle.night_lines.proofs.Told.{behind}
use Rattle.night_lines.proofs.start.push_sends.Goals as goal

pub returns-clause-lines : goal.returns-clause-lines
returns-clause-lines c = λ tells.
    let sends = c.args.sends.now in
    behind _ _ _ (option_to_list (sends_line sends)) (target_lines sends.targets.now)
    (c.push_targets.ensures.lines tells)
    (c.push_sends_line.ensures.line (c.push_targets.ensures.told tells))
