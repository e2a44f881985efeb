use Rattle.cmd_listen.proofs.Terms.{◌∙◌, ap, refl, here}
use Rattle.cmd_listen.proofs.Stood.{waits}
use Rattle.cmd_listen.proofs.monitor.Monitor.wait.Goals as goal

pub returns : goal.returns
returns c = λ t k s le.
    let after = c.here-after.ensures ∙ ap (here c.args.instant.moment) c.as_slice.ensures.value in
    waits c.args.instant t c.args.self.now _ k c.args.text.now.items c.tell_counts.new.text.items
    c.push_changes.new.text.items s le refl c.in_ok-tell_counts.ensures.1 after
    c.in_ok-tell_counts.ensures.0
    (cc (
      c.in_ok-push_changes.ensures,
      c.head-head.ensures,
      c.as_slice-2.ensures.value,
      c.as_slice-3.ensures.value,
      after,
    ))
