use Rattle.std.proofs.Common.{arith}
use Rattle.fade_core.proofs.Shares.{short_fraction, long_fraction, long_fraction_below}
use Rattle.fade_core.proofs.share.fraction.Goals as goal

pub returns-then-time-clause-exact : goal.returns-then-time-clause-exact
returns-then-time-clause-exact c = λ way small.
    short_fraction way c.args.part c.args.time (omega (arith, c.requires.part))
    c.if-time.true small

pub returns-else-time-clause-range : goal.returns-else-time-clause-range
returns-else-time-clause-range c =
    long_fraction_below c.args.part c.args.time c.requires.part c.requires.time

pub returns-else-time-clause-exact : goal.returns-else-time-clause-exact
returns-else-time-clause-exact c = λ way small.
    long_fraction way c.args.part c.args.time (omega (arith, c.requires.part))
    c.requires.time small
