use Rattle.cmd_play.proofs.Terms.{arith, refl}
use Rattle.cmd_play.proofs.Running.{fine_none}
use Rattle.cmd_play.proofs.lines.play_lines.Goals as goal

pub take_input-requires-clause-real : goal.take_input-requires-clause-real
take_input-requires-clause-real g c = (
  c.requires.real.0,
  record {
    console_stands = c.requires.real.1;
    pending_is = c.new.ensures;
    number_is = refl;
    fine = fine_none;
    short = omega arith;
  },
)
