use Rattle.show_core.proofs.InRange.{rate_fits}
use Rattle.show_core.proofs.cue.rate_of.Goals as goal

pub returns-clause-time : goal.returns-clause-time
returns-clause-time c =
    rw (c.unwrap_or.ensures, c.or.ensures)
    (rate_fits c.args.set c.args.other c.requires.set c.requires.other).0

pub returns-clause-delay : goal.returns-clause-delay
returns-clause-delay c =
    rw (c.unwrap_or.ensures, c.or.ensures)
    (rate_fits c.args.set c.args.other c.requires.set c.requires.other).1
