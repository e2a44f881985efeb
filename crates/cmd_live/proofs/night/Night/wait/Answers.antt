use Rattle.std.proofs.Common.{[], ◌∷◌, take}
use Rattle.live_input.specs.Night.{came, closed}
use Rattle.cmd_live.proofs.night.Night.wait.Goals as goal

pub returns-in-Bytes-clause-stands : goal.returns-in-Bytes-clause-stands
returns-in-Bytes-clause-stands g c = record {
  since = came (take c.in-Bytes.count c.wait.new.block) ∷ [];
  none_asked = tt;
  stands = λ happened stands. c.take_bytes.ensures happened stands;
  did = λ tells. rw c.in-Bytes.is at (c.in_ok-count.ensures.ok tells);
}

pub returns-in-End-clause-stands : goal.returns-in-End-clause-stands
returns-in-End-clause-stands g c = record {
  since = closed c.in-End.ends ∷ [];
  none_asked = tt;
  stands = λ happened stands. c.close.ensures happened stands;
  did = λ tells. rw c.in-End.is at (c.in_ok-count.ensures.ok tells);
}

pub returns-in-Nothing-clause-stands : goal.returns-in-Nothing-clause-stands
returns-in-Nothing-clause-stands g c = record {
  since = [];
  none_asked = tt;
  stands = λ happened stands. stands;
  did = λ tells. rw c.in-Nothing.is at (c.in_ok-count.ensures.ok tells);
}
