use Rattle.std.proofs.Common.{Ok, subst, sym}
use Rattle.show_jobs.specs.Checks.{IsCheckEnd}
use Rattle.show_jobs.proofs.Checks.{strict_end}
use Rattle.show_jobs.proofs.check.check_show.Goals as goal

pub returns-in-Ok-strict_end-clause-end : goal.returns-in-Ok-strict_end-clause-end
returns-in-Ok-strict_end-clause-end g c =
    subst (λ is_strict. IsCheckEnd is_strict c.args.show.now (Ok tt))
    (sym c.if-not-is_strict.false)
    (strict_end c.args.show.now c.in-Ok.weight (Ok tt) c.in-Ok.ensures.weight
    c.in-Ok-strict_end.ensures)
