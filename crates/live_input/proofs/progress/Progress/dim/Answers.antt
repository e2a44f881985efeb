use Rattle.live_input.proofs.Terms.{arith, length-append, length-decimal-le}
use Rattle.live_input.proofs.progress.Progress.dim.Goals as goal

pub given_line-requires-clause-short : goal.given_line-requires-clause-short
given_line-requires-clause-short c =
    simp length-append (omega (arith, length-decimal-le 15 c.args.now))
