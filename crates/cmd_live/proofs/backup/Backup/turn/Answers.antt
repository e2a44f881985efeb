use Rattle.cmd_live.proofs.backup.Backup.turn.Goals as goal

pub returns-in-Some-clause-led : goal.returns-in-Some-clause-led
returns-in-Some-clause-led g c = λ tells.
    c.led_by_typed.ensures.led tells _
    (c.in-Some.ensures.line (c.led_by_typed.ensures.told tells))
