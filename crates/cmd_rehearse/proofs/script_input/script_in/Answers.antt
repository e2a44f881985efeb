use Rattle.std.proofs.Common.{length}
use Rattle.cmd_rehearse.proofs.Within.{all_within}
use Rattle.cmd_rehearse.proofs.script_input.script_in.Goals as goal

pub returns-in-Ok-clause-strays : goal.returns-in-Ok-clause-strays
returns-in-Ok-clause-strays c =
    let script = c.in-Ok.script in
    all_within (length script.strays.items) script.events.items c.in-Ok.ensures.strays
