use Rattle.std.proofs.Common.{◌+◌}
use Rattle.wire_world.proofs.Linked.{first_rest}
use Rattle.wire_world.proofs.stage.Stage.open.Goals as goal

pub returns-clause-stands : goal.returns-clause-stands
returns-clause-stands g c = record {
  console_stands = c.in_ok-console.ensures.stands;
  link_empty = c.new.ensures.rows;
  packets_kept = λ t u. rw c.new-2.ensures.items (first_rest
      (record { show = c.args.show.now; base = c.args.base; source = c.args.source }) u
      (c.args.last + 1));
}
